-- A call of a core's rows that records a reply does what it does in the world that they keep.
use Rattle.std.proofs.Common.{◌≡◌, ◌&&◌, ◌||◌, not, cond, inl, inr, ℕ, zero, suc, ◌+◌, ◌<◌, Bool, true, false, nat_eq, is_none, List, [], ◌∷◌, map, length, get_or, Option, Some, None, option_map, refl, sym, ap, ◌∙◌, subst, arith, true≢false}
use Rattle.std.specs.Prelude.{filter, is_some, slice_get}
use Rattle.std.specs.List.{AllPairs}
use Rattle.std.proofs.lemmas.Bool.{cases_Bool, cases_eq, cases_lt, and_parts}
use Rattle.mcv_base.specs.declared.reply.Outcome.{Outcome}
use Rattle.mcv_base.specs.Reply.{ReplyValue, outcome_of}
use Rattle.mcv_classes.proofs.Order.{not-itself}
use Rattle.mcv_route.specs.declared.launch.Launch.{Launch}
use Rattle.mcv_route.specs.Outcomes.{Outcomes, is_same, outcomes}
use Rattle.mcv_route.specs.Routes.{RoutesValue}
use Rattle.mcv_rules.specs.Laws.{Extends}
use Rattle.mcv_rules.specs.Rows.{ComesBefore}
use Rattle.mcv_rules.proofs.ListMembers.{Among}
use Rattle.mcv_rules.proofs.Orders.{one_more, same_is, same_self}
use Rattle.mcv_rules.proofs.Verdicts.{sent_stays}
use Rattle.mcv_world.specs.World.{Call, tree_of, situation_of, choice_of, history_of, launched_by, put}
use Rattle.mcv_world.specs.Moves.{is_one, has_no_outcome, queue, with_reply, launched_since, recorded_by}
use Rattle.mcv_world.specs.LiveWorld.{has_ended, running, live_in, live_leg, live_of}
use Rattle.mcv_events.specs.Entries.{is_launched, is_due, has_leg_at}
use Rattle.mcv_events.specs.Rows.{awaits, State, Waiting, Sent, Held, InSpool, InReplay, LegRow, CallRow, Rows, leg_state, leg_of, world_of, is_unanswered, IsCallRow, IsCore, payload_of, queued_rows, recorded_row, recorded_rows, CanRecord}
use Rattle.mcv_world.proofs.Numbers.{same_some, none_when, no_some, put_same, put_other, put_cases, at_some}
use Rattle.mcv_world.proofs.CallsLegs.{all_at}
use Rattle.mcv_events.proofs.Entries.{fresh_are_entries, not_true, cond_false}
use Rattle.mcv_events.proofs.Numbering

-- ---- rows are live

leg_of_lives : (s : LegRow) (t : State) → live_in (leg_of s) (leg_state t) ≡ Some (leg_of s)
leg_of_lives s Waiting = refl
leg_of_lives s Sent = refl
leg_of_lives s Held = refl
leg_of_lives s InSpool = refl
leg_of_lives s InReplay = refl

pub live_leg_of : (o : Option LegRow) → live_leg (option_map leg_of o) ≡ option_map leg_of o
live_leg_of None = refl
live_leg_of (Some s) = leg_of_lives s s.state

pub running_live : (r : RoutesValue) (w : Rows) → IsCore r w → (m : ℕ) → running r (option_map (λ c. c.call) (w.calls m)) ≡ option_map (λ c. c.call) (w.calls m)
running_live r w i m = by_call (w.calls m) refl
  where
    by_call : (d : Option CallRow) → w.calls m ≡ d → running r (option_map (λ c. c.call) d) ≡ option_map (λ c. c.call) d
    by_call None e = refl
    by_call (Some d) e = ap (λ b. cond b None (Some d.call)) (i.call m d e).runs

-- ---- entries

at_index : (es : List Launch) (i : ℕ) (l : Launch) → slice_get es i ≡ Some l → (i < length (map (λ m. m.position) es)) × ((d : List ℕ) → get_or (map (λ m. m.position) es) i d ≡ l.position)
at_index [] i l e = no_some e
at_index (m ∷ es) zero l e = (omega arith, λ d. ap (λ v. v.position) (same_some e))
at_index (m ∷ es) (suc i) l e = let q = at_index es i l e in (omega (arith, q.0), q.1)

before_not_same : (es : List Launch) (i j : ℕ) (l m : Launch) → AllPairs ComesBefore (map (λ m. m.position) es) → slice_get es i ≡ Some l → slice_get es j ≡ Some m → l.position ≡ m.position → i < j → ⊥
before_not_same es i j l m rising a b same low =
    let x = at_index es i l a in
    let y = at_index es j m b in
    not-itself m.position (subst (λ v. ComesBefore v m.position) (x.1 [] ∙ same) (subst (ComesBefore (get_or (map (λ m. m.position) es) i [])) (y.1 []) (rising i j [] low y.0)))

-- two entries have two positions
pub one_entry : (es : List Launch) (i j : ℕ) (l m : Launch) → AllPairs ComesBefore (map (λ m. m.position) es) → slice_get es i ≡ Some l → slice_get es j ≡ Some m → l.position ≡ m.position → i ≡ j
one_entry es i j l m rising a b same =
    elim (cases_lt i j) [
      | inl low ↦ absurd (before_not_same es i j l m rising a b same low)
      | inr high ↦
          elim (cases_eq i j) [
            | inl q ↦ q
            | inr ne ↦ absurd (before_not_same es j i m l rising b a (sym same) (omega (arith, high, ne)))
          ]
    ]

pub launched_at : (ks : List Launch) (l : Launch) (p : List ℕ) → Among ks l → l.position ≡ p → has_leg_at ks p ≡ true
launched_at [] l p h e = absurd h
launched_at (k ∷ ks) l p (inl q) e = ap (λ b. b || has_leg_at ks p) (ap (λ v. is_same v p) (ap (λ v. v.position) q ∙ e) ∙ same_self p)
launched_at (k ∷ ks) l p (inr h) e = or_right (is_same k.position p) _ (launched_at ks l p h e)
  where
    or_right : (b c : Bool) → c ≡ true → (b || c) ≡ true
    or_right true c e = refl
    or_right false c e = e

-- the call that awaits an unanswered leg
abbrev pub Awaits : (ℕ → Option CallRow) → LegRow → Type 0
Awaits calls s = (k : ℕ) × (c : CallRow) × (s.call ≡ Some k) × (calls k ≡ Some c) × (outcomes (history_of c.call.recorded) s.launch.position ≡ None)

pub awaits_call : (calls : ℕ → Option CallRow) (s : LegRow) → awaits calls s s.call ≡ true → Awaits calls s
awaits_call calls s h = by_call s.call refl h
  where
    by_row : (k : ℕ) → s.call ≡ Some k → (d : Option CallRow) → calls k ≡ d → is_one d (λ c. has_no_outcome (leg_of s) c.call) ≡ true → Awaits calls s
    by_row k own None there e = absurd (true≢false (sym e))
    by_row k own (Some c) there e = (k, c, own, there, none_when (outcomes (history_of c.call.recorded) s.launch.position) e)

    by_call : (j : Option ℕ) → s.call ≡ j → awaits calls s j ≡ true → Awaits calls s
    by_call None own e = absurd (true≢false (sym e))
    by_call (Some k) own e = by_row k own (calls k) refl e

pub call_awaits : (calls : ℕ → Option CallRow) (s : LegRow) → Awaits calls s → awaits calls s s.call ≡ true
call_awaits calls s a = ap (awaits calls s) a.2 ∙ ap (λ d. is_one d (λ c. has_no_outcome (leg_of s) c.call)) a.3 ∙ ap is_none a.4

not_due : (a b : Bool) → (a ≡ true → b ≡ true) → (b && not a) ≡ false → a ≡ b
not_due true true h e = refl
not_due true false h e = absurd (true≢false (sym (h refl)))
not_due false true h e = absurd (true≢false e)
not_due false false h e = refl

and_no : (b a : Bool) → a ≡ true → (b && not a) ≡ false
and_no true true e = refl
and_no true false e = absurd (true≢false (sym e))
and_no false a e = refl

not_is_false : (a : Bool) → not a ≡ true → a ≡ false
not_is_false true e = absurd (true≢false (sym e))
not_is_false false e = refl

pub none_from : {A : Type 0} (o : Option A) → ((y : A) → o ≡ Some y → ⊥) → o ≡ None
none_from None h = refl
none_from (Some y) h = absurd (h y refl)

pub some_row : (b : Bool) (c d : CallRow) → cond b None (Some c) ≡ Some d → (b ≡ false) × (c ≡ d)
some_row true c d e = no_some e
some_row false c d e = (refl, same_some e)

-- ---- a call records a reply

module _ (r : RoutesValue) (w : Rows) (k : ℕ) (c : CallRow) (e : ℕ) (l : Launch) (x : ReplyValue) (i : IsCore r w) (h : CanRecord r w k c e l) where
  abbrev p : List ℕ
  p = l.position

  abbrev call2 : Call
  call2 = with_reply c.call l.position x

  abbrev due : Launch → Bool
  due = is_due r c.call (with_reply c.call l.position x)

  abbrev c2 : CallRow
  c2 = recorded_row r w c l.position x

  abbrev o : Outcomes
  o = outcomes (history_of c.call.recorded)

  abbrev o2 : Outcomes
  o2 = outcomes (history_of call2.recorded)

  abbrev calls2 : ℕ → Option CallRow
  calls2 = put w.calls k (cond (has_ended r call2) None (Some c2))

  row : IsCallRow r c
  row = i.call k c h.there

  fresh_is : launched_since r c.call l.position x ≡ filter due c.entries
  fresh_is = fresh_are_entries r c.call c.entries l.position x row.laid

  -- ---- what is left is the same

  calls_are : (m : ℕ) → option_map (λ d. d.call) (calls2 m) ≡ running r (put (world_of w).calls k (Some call2) m)
  calls_are m = by_cases (nat_eq k m)
    where
      ended : (b : Bool) → option_map (λ d. d.call) (cond b None (Some c2)) ≡ cond b None (Some call2)
      ended true = refl
      ended false = refl

      by_cases : (b : Bool) → option_map (λ d. d.call) (cond b (cond (has_ended r call2) None (Some c2)) (w.calls m)) ≡ running r (cond b (Some call2) (option_map (λ d. d.call) (w.calls m)))
      by_cases true = ended (has_ended r call2)
      by_cases false = sym (running_live r w i m)

  legs_are : (m : ℕ) → option_map leg_of (queued_rows due k (payload_of c) w.next_leg 0 c.entries w.legs m) ≡ live_leg (queue (world_of w).legs w.next_leg k c.call.rest (launched_since r c.call l.position x) m)
  legs_are m =
      let rows = queued_rows due k (payload_of c) w.next_leg 0 c.entries w.legs m in
      let q = Numbering.rows_queue due k (payload_of c) w.next_leg 0 c.entries w.legs (world_of w).legs (λ j. refl) m in
      sym (live_leg_of rows) ∙ ap live_leg (q ∙ ap (λ ls. queue (world_of w).legs w.next_leg k c.call.rest ls m) (sym fresh_is))

  pub recording_is_recorded : world_of (recorded_rows r w k c l.position x) ≡ live_of r (recorded_by r (world_of w) k c.call l.position x)
  recording_is_recorded = λ j. record {
    calls = λ m. calls_are m j;
    legs = λ m. legs_are m j;
    since = w.since;
    next_call = w.next_call;
    next_leg = ap (λ ls. w.next_leg + length ls) (sym fresh_is) j;
  }

  -- ---- what holds of a core's rows still holds

  more : Extends o o2
  more = one_more l.position (outcome_of x) (history_of c.call.recorded) h.no_outcome

  up : (m : Launch) → Among (launched_by r c.call) m → Among (launched_by r call2) m
  up m a = sent_stays (tree_of r c.call.route) (situation_of c.call) (choice_of c.call) o o2 m more a

  pub launched_stays : (m : Launch) → is_launched r c.call m ≡ true → is_launched r call2 m ≡ true
  launched_stays m t = let q = at_some m.position (launched_by r c.call) t in launched_at (launched_by r call2) q.0 m.position (up q.0 q.1) q.2

  own_launched : is_launched r c.call l ≡ true
  own_launched = sym (row.linked e l h.entry) ∙ h.launched

  linked2 : (j : ℕ) (m : Launch) → slice_get c.entries j ≡ Some m → is_some (c2.legs j) ≡ is_launched r call2 m
  linked2 j m at =
      let zero_plus : j ≡ 0 + j = omega arith in
      elim (cases_Bool (due m)) [
        | inl t ↦ Numbering.numbered_due due w.next_leg 0 c.entries c.legs j j m at zero_plus t ∙ sym (and_parts _ _ t).0
        | inr t ↦
            ap is_some (Numbering.numbered_rest due w.next_leg 0 c.entries c.legs j j m at zero_plus t)
            ∙ row.linked j m at ∙ not_due (is_launched r c.call m) (is_launched r call2 m) (launched_stays m) t
      ]

  closed2 : (q : List ℕ) (y : Outcome) → o2 q ≡ Some y → has_leg_at (launched_by r call2) q ≡ true
  closed2 q y f =
      elim (cases_Bool (is_same l.position q)) [
        | inl t ↦
            let s = at_some l.position (launched_by r c.call) own_launched in
            launched_at (launched_by r call2) s.0 q (up s.0 s.1) (s.2 ∙ same_is l.position q t)
        | inr t ↦
            let old = at_some q (launched_by r c.call) (row.closed q y (sym (cond_false (is_same l.position q) (Some (outcome_of x)) (o q) t) ∙ f)) in
            launched_at (launched_by r call2) old.0 q (up old.0 old.1) old.2
      ]

  -- a launched leg without an outcome keeps the call running
  runs_on : (m : Launch) → is_launched r call2 m ≡ true → o2 m.position ≡ None → has_ended r call2 ≡ false
  runs_on m t n = not_true (has_ended r call2) (λ f.
      let s = at_some m.position (launched_by r call2) t in
      let some = all_at (λ v. is_some (o2 v.position)) (launched_by r call2) s.0 (and_parts _ _ f).1 s.1 in
      true≢false (sym some ∙ ap (λ v. is_some (o2 v)) s.2 ∙ ap is_some n))

  there2 : has_ended r call2 ≡ false → calls2 k ≡ Some c2
  there2 t = put_same w.calls k (cond (has_ended r call2) None (Some c2)) ∙ ap (λ b. cond b None (Some c2)) t

  -- the entries with a leg of the call keep it
  kept_number : (j m : ℕ) (v : Launch) → slice_get c.entries j ≡ Some v → c.legs j ≡ Some m → c2.legs j ≡ Some m
  kept_number j m v at f =
      let zero_plus : j ≡ 0 + j = omega arith in
      let launched = sym (row.linked j v at) ∙ ap is_some f in
      Numbering.numbered_rest due w.next_leg 0 c.entries c.legs j j v at zero_plus (and_no (is_launched r call2 v) (is_launched r c.call v) launched) ∙ f

  k_below : k < w.next_call
  k_below = elim (cases_lt k w.next_call) [ inl low ↦ low | inr high ↦ no_some (sym (i.calls_below k high) ∙ h.there) ]

  -- ---- unanswered legs

  still_awaited : (m : ℕ) (s : LegRow) → w.legs m ≡ Some s → is_unanswered s.state ≡ true → (j : ℕ) × (d : CallRow) × (s.call ≡ Some j) × (calls2 j ≡ Some d) × (outcomes (history_of d.call.recorded) s.launch.position ≡ None)
  still_awaited m s at opened =
      let a = awaits_call w.calls s (i.awaited m s at opened) in
      elim (cases_eq k a.0) [
        | inl q ↦
            let own : s.call ≡ Some k = a.2 ∙ ap (λ v. Some v) (sym q) in
            let same : a.1 ≡ c = same_some (sym a.3 ∙ ap w.calls (sym q) ∙ h.there) in
            let its = i.own m s k c at own h.there in
            let apart = not_true (is_same l.position s.launch.position) (λ t.
            h.shut m s at own opened (sym (one_entry c.entries e s.entry l s.launch row.laid.rising h.entry its.0 (same_is l.position s.launch.position t)))) in
            let none : o2 s.launch.position ≡ None =
            cond_false (is_same l.position s.launch.position) (Some (outcome_of x)) (o s.launch.position) apart ∙ subst (λ v. outcomes (history_of v.call.recorded) s.launch.position ≡ None) same a.4 in
            let launched = launched_stays s.launch (sym (row.linked s.entry s.launch its.0) ∙ ap is_some its.1) in
            (k, c2, own, there2 (runs_on s.launch launched none), none)
        | inr ne ↦ (a.0, a.1, a.2, put_other w.calls k a.0 (cond (has_ended r call2) None (Some c2)) ne ∙ a.3, a.4)
      ]

  new_awaited : (m : Launch) → due m ≡ true → (calls2 k ≡ Some c2) × (o2 m.position ≡ None)
  new_awaited m t =
      let parts = and_parts _ _ t in
      let late = not_is_false (is_launched r c.call m) parts.1 in
      let apart = not_true (is_same l.position m.position) (λ f.
      let s = at_some l.position (launched_by r c.call) own_launched in
      true≢false (sym (launched_at (launched_by r c.call) s.0 m.position s.1 (s.2 ∙ same_is l.position m.position f)) ∙ late)) in
      let before : o m.position ≡ None = none_from (o m.position) (λ y f.
      let s = at_some m.position (launched_by r c.call) (row.closed m.position y f) in
      true≢false (sym (launched_at (launched_by r c.call) s.0 m.position s.1 s.2) ∙ late)) in
      let none : o2 m.position ≡ None = cond_false (is_same l.position m.position) (Some (outcome_of x)) (o m.position) apart ∙ before in
      (there2 (runs_on m parts.0 none), none)

  pub recording_keeps_core : IsCore r (recorded_rows r w k c l.position x)
  recording_keeps_core =
      record {
        calls_below = λ j high. put_other w.calls k j (cond (has_ended r call2) None (Some c2)) (λ q. let low = k_below in omega (arith, low, high, q)) ∙ i.calls_below j high;
        legs_below = λ m high. Numbering.rows_above due k (payload_of c) w.next_leg 0 c.entries w.legs m high ∙ i.legs_below m (omega (arith, high));
        call = λ j d f. elim (put_cases w.calls k j (cond (has_ended r call2) None (Some c2)) d f) [
          | inl q ↦
              let s = some_row (has_ended r call2) c2 d q.1 in
              subst (IsCallRow r) s.1 (record { laid = record { all = row.laid.all; rising = row.laid.rising }; runs = s.0; linked = linked2; closed = closed2 })
          | inr q ↦ i.call j d q.1
        ];
        own = λ m s j d f g t. elim (Numbering.rows_back due k (payload_of c) w.next_leg 0 c.entries w.legs m s f) [
          | inl old ↦
              elim (put_cases w.calls k j (cond (has_ended r call2) None (Some c2)) d t) [
                | inl q ↦
                    let its = i.own m s k c old (g ∙ ap (λ v. Some v) (sym q.0)) h.there in
                    subst (λ v. (slice_get v.entries s.entry ≡ Some s.launch) × (v.legs s.entry ≡ Some m)) (some_row (has_ended r call2) c2 d q.1).1
                    (its.0, kept_number s.entry m s.launch its.0 its.1)
                | inr q ↦ i.own m s j d old g q.1
              ]
          | inr new ↦
              let jk : k ≡ j = same_some (ap (λ v. v.call) new.is ∙ g) in
              let same = (some_row (has_ended r call2) c2 d (sym (put_same w.calls k (cond (has_ended r call2) None (Some c2))) ∙ subst (λ v. calls2 v ≡ Some d) (sym jk) t)).1 in
              let index : new.index ≡ new.entry = let z = new.entry_is in omega (arith, z) in
              subst (λ v. (slice_get v.entries s.entry ≡ Some s.launch) × (v.legs s.entry ≡ Some m)) same
              (subst (λ v. (slice_get c2.entries v.entry ≡ Some v.launch) × (c2.legs v.entry ≡ Some m)) new.is
              (subst (λ v. slice_get c.entries v ≡ Some new.launch) index new.at, new.number c.legs))
        ];
        awaited = λ m s f opened. elim (Numbering.rows_back due k (payload_of c) w.next_leg 0 c.entries w.legs m s f) [
          | inl old ↦ call_awaits calls2 s (still_awaited m s old opened)
          | inr new ↦
              let a = new_awaited new.launch new.is_due in
              call_awaits calls2 s (k, c2, sym (ap (λ v. v.call) new.is), a.0, subst (λ v. o2 v.launch.position ≡ None) new.is a.1)
        ];
        counted = λ m s f opened. elim (Numbering.rows_back due k (payload_of c) w.next_leg 0 c.entries w.legs m s f) [
          | inl old ↦ i.counted m s old opened
          | inr new ↦ absurd (true≢false (subst (λ v. is_unanswered v.state ≡ false) (sym new.is) opened))
        ];
        owner = λ m s j f g. elim (Numbering.rows_back due k (payload_of c) w.next_leg 0 c.entries w.legs m s f) [
          | inl old ↦ i.owner m s j old g
          | inr new ↦ subst (λ v. v < w.next_call) (same_some (ap (λ v. v.call) new.is ∙ g)) k_below
        ];
      }
