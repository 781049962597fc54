-- What holds of a world still holds after each possible move.
use Rattle.std.proofs.Common.{◌≡◌, ◌≢◌, ◌⊎◌, ◌&&◌, not, cond, inl, inr, ℕ, suc, ◌<◌, Bool, true, false, List, [], ◌∷◌, Option, Some, None, refl, sym, ap, ◌∙◌, subst, arith, true≢false}
use Rattle.std.specs.Prelude.{is_some}
use Rattle.std.proofs.lemmas.Bool.{cases_eq, and_parts}
use Rattle.mcv_base.specs.declared.reply.FixedReply.TheVariants.{Lost}
use Rattle.mcv_base.specs.Operation.{is_delete, is_counting}
use Rattle.mcv_base.specs.Reply.{ReplyValue, not_found, outcome_of, fixed_value}
use Rattle.mcv_route.specs.declared.launch.Launch.{Launch}
use Rattle.mcv_route.specs.Outcomes.{Outcomes, outcomes}
use Rattle.mcv_route.specs.Routes.{RoutesValue}
use Rattle.mcv_rules.specs.Laws.{Extends}
use Rattle.mcv_rules.proofs.Orders.{one_more}
use Rattle.mcv_rules.proofs.Verdicts.{sent_stays}
use Rattle.mcv_world.specs.World.{LegState, Queued, Performed, Spooled, Gone, Call, Leg, World, tree_of, situation_of, choice_of, history_of, launched_by, reply_of, is_counted_delete, put}
use Rattle.mcv_world.specs.Moves.{Move, Began, Answered, WasSpooled, WasRefused, WasPerformed, EraBegan, Taken, counted_as, is_error_reply, is_one, has_no_outcome, can_be_answered, can_be_spooled, can_be_refused, can_be_taken, is_move, queued, new_call, began, with_reply, launched_since, recorded_by, recorded_if, recorded_for, with_leg_state, answered_state, with_taken, with_leg, with_call, changed, after, run}
use Rattle.mcv_world.specs.PossibleMoves.{IsAllowed, ArePossible}
use Rattle.mcv_world.specs.Laws.{Launches, IsCall, HasLeg, IsWorld, OpeningIsWorld, MovesKeepWorlds}
use Rattle.mcv_world.proofs.Numbers.{same_some, none_when, no_some, put_same, put_other, put_cases, queue_old, queue_new, queue_back, new_or_old, new_is}
use Rattle.mcv_world.proofs.CallsLegs.{among_has, one_leg_later}
use Rattle.mcv_world.proofs.Replies.{reply_stays}

queued_stays : Queued ≢ Gone
queued_stays e = cc

performed_stays : Performed ≢ Gone
performed_stays e = cc

spooled_stays : Spooled ≢ Gone
spooled_stays e = cc

-- ---- an opening world

pub opening_is_world : OpeningIsWorld
opening_is_world r w o =
    record {
      calls = λ k call e. no_some (sym (o.calls k) ∙ e);
      has = λ k call l e f. no_some (sym (o.calls k) ∙ e);
      sent = λ n s k call e f g. no_some (sym (o.calls k) ∙ g);
      counted = λ n s e f g. spooled_stays (sym (o.spooled n s e) ∙ g);
      number = o.number;
      owner = o.owner;
      era = o.era;
    }

-- ---- a leg comes to a state

module _ (r : RoutesValue) (w : World) (n : ℕ) (s : Leg) (state : LegState) (i : IsWorld r w) (at : w.legs n ≡ Some s) where
  moved : Leg
  moved = record s { state = state }

  abbrev legs2 : ℕ → Option Leg
  legs2 = put w.legs n (Some (record s { state = state }))

  -- what the leg there was
  was : (m : ℕ) (z : Leg) → legs2 m ≡ Some z → (v : Leg) × (w.legs m ≡ Some v) × (z.call ≡ v.call) × (z.launch ≡ v.launch) × (z.rest ≡ v.rest) × ((z.state ≡ state) × (v ≡ s) ⊎ (z.state ≡ v.state))
  was m z e =
      elim (put_cases w.legs n m (Some (record s { state = state })) z e) [
        | inl q ↦
            let same = sym (same_some q.1) in
            (s, ap w.legs (sym q.0) ∙ at, ap (λ v. v.call) same, ap (λ v. v.launch) same, ap (λ v. v.rest) same, inl (ap (λ v. v.state) same, refl))
        | inr q ↦ (z, q.1, refl, refl, refl, inr refl)
      ]

  pub world_with_state : (is_counted_delete s ≡ true → state ≢ Gone) → IsWorld r (with_leg_state w n s state)
  world_with_state kept =
      record {
        calls = i.calls;
        has = λ k call l e f. let h = i.has k call l e f in
            elim (cases_eq n h.number) [
              | inl q ↦
                  let same : s ≡ h.leg = same_some (sym at ∙ ap w.legs q ∙ h.there) in
                  record {
                    number = n;
                    leg = record s { state = state };
                    there = put_same w.legs n (Some (record s { state = state }));
                    own = ap (λ z. z.call) same ∙ h.own;
                    launch = ap (λ z. z.launch) same ∙ h.launch;
                    rest = ap (λ z. z.rest) same ∙ h.rest;
                  }
              | inr ne ↦ record { number = h.number; leg = h.leg; there = put_other w.legs n h.number (Some (record s { state = state })) ne ∙ h.there; own = h.own; launch = h.launch; rest = h.rest }
            ];
        sent = λ m z k call e f g. let v = was m z e in subst (λ l. Launches r call l) (sym v.3) (i.sent m v.0 k call v.1 (sym v.2 ∙ f) g);
        counted = λ m z e o g. let v = was m z e in
            elim v.5 [
              | inl q ↦ kept (subst (λ u. is_counted_delete u ≡ true) q.1 (ap (λ l. is_delete l.op && is_counting l.mark) (sym v.3) ∙ o)) (sym q.0 ∙ g)
              | inr q ↦ i.counted m v.0 v.1 (ap (λ l. is_delete l.op && is_counting l.mark) (sym v.3) ∙ o) (sym q ∙ g)
            ];
        number = λ m z e. let v = was m z e in i.number m v.0 v.1;
        owner = λ m z k e f. let v = was m z e in i.owner m v.0 k v.1 (sym v.2 ∙ f);
        era = i.era;
      }

-- ---- a call records a reply

module _ (r : RoutesValue) (w : World) (k : ℕ) (call : Call) (l : Launch) (x : ReplyValue) (i : IsWorld r w) (at : w.calls k ≡ Some call)
    (sends : Launches r call l) (none : outcomes (history_of call.recorded) l.position ≡ None) where
  abbrev p : List ℕ
  p = l.position

  abbrev call2 : Call
  call2 = with_reply call p x

  abbrev w2 : World
  w2 = recorded_by r w k call p x

  abbrev o : Outcomes
  o = outcomes (history_of call.recorded)

  abbrev o2 : Outcomes
  o2 = outcomes (history_of call2.recorded)

  abbrev new : List Launch
  new = launched_since r call p x

  more : Extends o o2
  more = one_more p (outcome_of x) (history_of call.recorded) none

  stays : (m : Launch) → Launches r call m → Launches r call2 m
  stays m h = sent_stays (tree_of r call.route) (situation_of call) (choice_of call) o o2 m more h

  is_call : IsCall r call2
  is_call =
      let c = (i.calls k call at).1 in
      record {
        began = c.began;
        era = c.era;
        legal = (among_has (launched_by r call) (λ m. m.position ≡ p) l sends refl, none, c.legal);
        taken = λ t. taken_by (reply_of r call) refl (c.taken t);
      }
    where
      taken_by : (y : Option ReplyValue) → reply_of r call ≡ y → is_some y ≡ true → is_some (reply_of r call2) ≡ true
      taken_by None e t = absurd (true≢false (sym t))
      taken_by (Some y) e t = ap is_some (reply_stays r call p x y none e)

  old_leg : (j : ℕ) (d : Call) (m : Launch) → HasLeg w j d m → HasLeg w2 j d m
  old_leg j d m h =
      record { number = h.number; leg = h.leg; there = queue_old w.legs w.next_leg k h.number call.rest new (i.number h.number h.leg h.there) ∙ h.there; own = h.own; launch = h.launch; rest = h.rest }

  own_legs : (m : Launch) → Launches r call2 m → HasLeg w2 k call2 m
  own_legs m f =
      elim (new_or_old (launched_by r call) (launched_by r call2) m f) [
        | inl n ↦
            let q = queue_new w.legs w.next_leg k call.rest new m n in
            record { number = q.0; leg = queued k call.rest m; there = q.1; own = refl; launch = refl; rest = refl }
        | inr q ↦
            let same = one_leg_later (tree_of r call.route) (situation_of call) (choice_of call) o o2 q.0 m more q.1 f q.2 in
            let h = i.has k call m at (subst (λ v. Launches r call v) same q.1) in
            old_leg k call2 m (record { number = h.number; leg = h.leg; there = h.there; own = h.own; launch = h.launch; rest = h.rest })
      ]

  pub recorded_world : IsWorld r (recorded_by r w k call l.position x)
  recorded_world =
      record {
        calls = λ j d e. elim (put_cases w.calls k j (Some call2) d e) [
          | inl q ↦ subst (λ v. (j < w.next_call) × IsCall r v) (same_some q.1) (subst (λ n. n < w.next_call) q.0 ((i.calls k call at).0), is_call)
          | inr q ↦ i.calls j d q.1
        ];
        has = λ j d m e f. elim (put_cases w.calls k j (Some call2) d e) [
          | inl q ↦
              let same = same_some q.1 in
              subst (λ v. HasLeg w2 j v m) same (subst (λ n. HasLeg w2 n call2 m) q.0 (own_legs m (subst (λ v. Launches r v m) (sym same) f)))
          | inr q ↦ old_leg j d m (i.has j d m q.1 f)
        ];
        sent = λ n z j d e f g. elim (queue_back w.legs w.next_leg k call.rest new n z e) [
          | inl old ↦
              elim (put_cases w.calls k j (Some call2) d g) [
                | inl q ↦ subst (λ v. Launches r v z.launch) (same_some q.1) (stays z.launch (i.sent n z k call old (f ∙ ap (λ v. Some v) (sym q.0)) at))
                | inr q ↦ i.sent n z j d old f q.1
              ]
          | inr q ↦
              let jk : k ≡ j = same_some (ap (λ v. v.call) q.2 ∙ f) in
              let same : call2 ≡ d = same_some (sym (put_same w.calls k (Some call2)) ∙ subst (λ v. put w.calls k (Some call2) v ≡ Some d) (sym jk) g) in
              subst (λ v. Launches r v z.launch) same (subst (λ v. Launches r call2 v) (ap (λ v. v.launch) q.2) (new_is (launched_by r call) (launched_by r call2) q.0 q.1))
        ];
        counted = λ n z e f g. elim (queue_back w.legs w.next_leg k call.rest new n z e) [
          | inl old ↦ i.counted n z old f g
          | inr q ↦ queued_stays (ap (λ v. v.state) q.2 ∙ g)
        ];
        number = λ n z e. elim (queue_back w.legs w.next_leg k call.rest new n z e) [ inl old ↦ omega (arith, i.number n z old) | inr q ↦ q.3 ];
        owner = λ n z j e f. elim (queue_back w.legs w.next_leg k call.rest new n z e) [
          | inl old ↦ i.owner n z j old f
          | inr q ↦ subst (λ v. v < w.next_call) (same_some (ap (λ v. v.call) q.2 ∙ f)) ((i.calls k call at).0)
        ];
        era = i.era;
      }

-- ---- a call begins

module _ (r : RoutesValue) (w : World) (call : Call) (i : IsWorld r w) (a : IsCall r call) where
  abbrev all : List Launch
  all = launched_by r call

  pub began_world : IsWorld r (began r w call)
  began_world =
      record {
        calls = λ j d e. elim (put_cases w.calls w.next_call j (Some call) d e) [
          | inl q ↦ subst (λ v. (j < suc w.next_call) × IsCall r v) (same_some q.1) (omega (arith, q.0), a)
          | inr q ↦ let c = i.calls j d q.1 in (omega (arith, c.0), c.1)
        ];
        has = λ j d m e f. elim (put_cases w.calls w.next_call j (Some call) d e) [
          | inl q ↦
              let same = same_some q.1 in
              let n = queue_new w.legs w.next_leg w.next_call call.rest all m (subst (λ v. Launches r v m) (sym same) f) in
              record { number = n.0; leg = queued w.next_call call.rest m; there = n.1; own = ap (λ v. Some v) q.0; launch = refl; rest = ap (λ v. v.rest) same }
          | inr q ↦
              let h = i.has j d m q.1 f in
              record { number = h.number; leg = h.leg; there = queue_old w.legs w.next_leg w.next_call h.number call.rest all (i.number h.number h.leg h.there) ∙ h.there; own = h.own; launch = h.launch; rest = h.rest }
        ];
        sent = λ n z j d e f g. elim (queue_back w.legs w.next_leg w.next_call call.rest all n z e) [
          | inl old ↦
              elim (put_cases w.calls w.next_call j (Some call) d g) [
                | inl q ↦ absurd (lt_self w.next_call (subst (λ v. v < w.next_call) (sym q.0) (i.owner n z j old f)))
                | inr q ↦ i.sent n z j d old f q.1
              ]
          | inr q ↦
              let jk : w.next_call ≡ j = same_some (ap (λ v. v.call) q.2 ∙ f) in
              let same : call ≡ d = same_some (sym (put_same w.calls w.next_call (Some call)) ∙ subst (λ v. put w.calls w.next_call (Some call) v ≡ Some d) (sym jk) g) in
              subst (λ v. Launches r v z.launch) same (subst (λ v. Launches r call v) (ap (λ v. v.launch) q.2) q.1)
        ];
        counted = λ n z e f g. elim (queue_back w.legs w.next_leg w.next_call call.rest all n z e) [
          | inl old ↦ i.counted n z old f g
          | inr q ↦ queued_stays (ap (λ v. v.state) q.2 ∙ g)
        ];
        number = λ n z e. elim (queue_back w.legs w.next_leg w.next_call call.rest all n z e) [ inl old ↦ omega (arith, i.number n z old) | inr q ↦ q.3 ];
        owner = λ n z j e f. elim (queue_back w.legs w.next_leg w.next_call call.rest all n z e) [
          | inl old ↦ omega (arith, i.owner n z j old f)
          | inr q ↦ let jk : w.next_call ≡ j = same_some (ap (λ v. v.call) q.2 ∙ f) in omega (arith, jk)
        ];
        era = i.era;
      }
    where
      lt_self : (n : ℕ) → n < n → ⊥
      lt_self n h = omega (arith, h)

-- ---- a call's reply is taken

module _ (r : RoutesValue) (w : World) (k : ℕ) (call : Call) (i : IsWorld r w) (at : w.calls k ≡ Some call) (replied : is_some (reply_of r call) ≡ true) where
  abbrev call3 : Call
  call3 = with_taken call

  -- the same call, taken or not
  was_call : (j : ℕ) (d : Call) → put w.calls k (Some call3) j ≡ Some d → (c : Call) × (w.calls j ≡ Some c) × (d ≡ c ⊎ d ≡ with_taken c)
  was_call j d e =
      elim (put_cases w.calls k j (Some call3) d e) [
        | inl q ↦ (call, ap w.calls (sym q.0) ∙ at, inr (sym (same_some q.1)))
        | inr q ↦ (d, q.1, inl refl)
      ]

  like : (P : Call → Type 0) (c d : Call) → (d ≡ c ⊎ d ≡ with_taken c) → P c → P (with_taken c) → P d
  like P c d (inl e) x y = subst P (sym e) x
  like P c d (inr e) x y = subst P (sym e) y

  pub taken_world : IsWorld r (record w { calls = put w.calls k (Some call3) })
  taken_world =
      record {
        calls = λ j d e. elim (put_cases w.calls k j (Some call3) d e) [
          | inl q ↦
              let c = i.calls k call at in
              subst (λ v. (j < w.next_call) × IsCall r v) (same_some q.1)
              (subst (λ n. n < w.next_call) q.0 c.0, record { began = c.1.began; era = c.1.era; legal = c.1.legal; taken = λ t. replied })
          | inr q ↦ i.calls j d q.1
        ];
        has = λ j d m e f. let v = was_call j d e in
            let g : Launches r v.0 m = back v.0 d m v.2 f in
            let h = i.has j v.0 m v.1 g in
            record { number = h.number; leg = h.leg; there = h.there; own = h.own; launch = h.launch; rest = h.rest ∙ same_rest v.0 d v.2 };
        sent = λ n z j d e f g. let v = was_call j d g in forth v.0 d z.launch v.2 (i.sent n z j v.0 e f v.1);
        counted = i.counted;
        number = i.number;
        owner = i.owner;
        era = i.era;
      }
    where
      back : (c d : Call) (m : Launch) → (d ≡ c ⊎ d ≡ with_taken c) → Launches r d m → Launches r c m
      back c d m (inl e) f = subst (λ v. Launches r v m) e f
      back c d m (inr e) f = subst (λ v. Launches r v m) e f

      forth : (c d : Call) (m : Launch) → (d ≡ c ⊎ d ≡ with_taken c) → Launches r c m → Launches r d m
      forth c d m e f = like (λ v. Launches r v m) c d e f f

      same_rest : (c d : Call) → (d ≡ c ⊎ d ≡ with_taken c) → c.rest ≡ d.rest
      same_rest c d (inl e) = ap (λ v. v.rest) (sym e)
      same_rest c d (inr e) = ap (λ v. v.rest) (sym e)

-- ---- moves

recorded_if_world : (r : RoutesValue) (w : World) (s : Leg) (x : ReplyValue) (k : ℕ) (d : Option Call) → IsWorld r w → w.calls k ≡ d
    → ((call : Call) → w.calls k ≡ Some call → Launches r call s.launch) → IsWorld r (recorded_if r w s x k d)
recorded_if_world r w s x k None i e sends = i
recorded_if_world r w s x k (Some call) i e sends = by_cases (has_no_outcome s call) refl
  where
    by_cases : (b : Bool) → has_no_outcome s call ≡ b → IsWorld r (cond b (recorded_by r w k call s.launch.position x) w)
    by_cases true f = recorded_world r w k call s.launch x i e (sends call e) (none_when (outcomes (history_of call.recorded) s.launch.position) f)
    by_cases false f = i

recorded_for_world : (r : RoutesValue) (w : World) (s : Leg) (x : ReplyValue) (j : Option ℕ) → IsWorld r w
    → ((k : ℕ) (call : Call) → j ≡ Some k → w.calls k ≡ Some call → Launches r call s.launch) → IsWorld r (recorded_for r w s x j)
recorded_for_world r w s x None i sends = i
recorded_for_world r w s x (Some k) i sends = recorded_if_world r w s x k (w.calls k) i refl (λ call e. sends k call refl e)

with_leg_world : (r : RoutesValue) (w : World) (o : Option Leg) (test : Leg → Bool) (f : Leg → World) → is_one o test ≡ true
    → ((s : Leg) → o ≡ Some s → test s ≡ true → IsWorld r (f s)) → IsWorld r (with_leg w o f)
with_leg_world r w None test f e h = absurd (true≢false (sym e))
with_leg_world r w (Some s) test f e h = h s refl e

with_call_world : (r : RoutesValue) (w : World) (o : Option Call) (test : Call → Bool) (f : Call → World) → is_one o test ≡ true
    → ((call : Call) → o ≡ Some call → test call ≡ true → IsWorld r (f call)) → IsWorld r (with_call w o f)
with_call_world r w None test f e h = absurd (true≢false (sym e))
with_call_world r w (Some call) test f e h = h call refl e

answered_stays : (d c f : Bool) → not ((d && c) && f) ≡ true → (d && c) ≡ true → cond (d && not f) Performed Gone ≢ Gone
answered_stays true true true e o = absurd (true≢false (sym e))
answered_stays true true false e o = performed_stays
answered_stays true false f e o = absurd (true≢false (sym o))
answered_stays false c f e o = absurd (true≢false (sym o))

changed_world : (r : RoutesValue) (w : World) (m : Move) → IsWorld r w → IsAllowed r m → is_move r w m ≡ true → IsWorld r (changed r w m)
changed_world r w (Began op route rest choice) i a e =
    began_world r w (new_call w op route rest choice) i (record { began = a; era = i.era; legal = tt; taken = λ t. absurd (true≢false (sym t)) })
changed_world r w (Answered n x) i a e = with_leg_world r w (w.legs n) (can_be_answered w x) _ e (λ s at t.
    let y = counted_as s.launch.op x in
    let state = answered_state s.launch.op y in
    let parts = and_parts _ _ (and_parts _ _ t).1 in
    recorded_for_world r (with_leg_state w n s state) s y s.call
    (world_with_state r w n s state i at (answered_stays (is_delete s.launch.op) (is_counting s.launch.mark) (is_error_reply y) parts.1))
    (λ k call own there. i.sent n s k call at own there))
changed_world r w (WasSpooled n) i a e = with_leg_world r w (w.legs n) can_be_spooled _ e (λ s at t.
    recorded_for_world r (with_leg_state w n s Spooled) s not_found s.call (world_with_state r w n s Spooled i at (λ o. spooled_stays)) (λ k call own there. i.sent n s k call at own there))
changed_world r w (WasRefused n) i a e = with_leg_world r w (w.legs n) (can_be_refused w) _ e (λ s at t.
    recorded_for_world r w s (fixed_value Lost) s.call i (λ k call own there. i.sent n s k call at own there))
changed_world r w (WasPerformed n) i a e = with_leg_world r w (w.legs n) _ _ e (λ s at t. world_with_state r w n s Performed i at (λ o. performed_stays))
changed_world r w (EraBegan since) i a e =
    record { calls = i.calls; has = λ k call l f g. let h = i.has k call l f g in record { number = h.number; leg = h.leg; there = h.there; own = h.own; launch = h.launch; rest = h.rest }; sent = i.sent; counted = i.counted; number = i.number; owner = i.owner; era = a }
changed_world r w (Taken k) i a e = with_call_world r w (w.calls k) (can_be_taken r) _ e (λ call at t. taken_world r w k call i at (and_parts _ _ t).1)

pub moves_keep_worlds : MovesKeepWorlds
moves_keep_worlds r w m i p = by_cases (is_move r w m) p.move
  where
    by_cases : (b : Bool) → b ≡ true → IsWorld r (cond b (changed r w m) w)
    by_cases true e = changed_world r w m i p.allowed p.move
    by_cases false e = i

pub run_world : (r : RoutesValue) (w : World) (ms : List Move) → IsWorld r w → ArePossible r w ms → IsWorld r (run r w ms)
run_world r w [] i a = i
run_world r w (m ∷ ms) i a = run_world r (after r w m) ms (moves_keep_worlds r w m i a.0) a.1
