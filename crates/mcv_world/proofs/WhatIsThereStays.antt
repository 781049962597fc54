-- A leg keeps its number and what it sends, and a call keeps its reply.
use Rattle.std.proofs.Common.{◌≡◌, cond, inl, inr, ℕ, ◌<◌, Bool, true, false, Option, Some, None, refl, sym, ap, ◌∙◌, subst, arith}
use Rattle.std.proofs.lemmas.Bool.{cases_eq}
use Rattle.mcv_base.specs.Reply.{ReplyValue, not_found, fixed_value}
use Rattle.mcv_base.specs.declared.reply.FixedReply.TheVariants.{Lost}
use Rattle.mcv_route.specs.Outcomes.{outcomes}
use Rattle.mcv_route.specs.Routes.{RoutesValue}
use Rattle.mcv_world.specs.World.{LegState, Performed, Spooled, Call, Leg, World, history_of, launched_by, reply_of, put}
use Rattle.mcv_world.specs.Moves.{Move, Began, Answered, WasSpooled, WasRefused, WasPerformed, EraBegan, Taken, counted_as, has_no_outcome, is_move, new_call, with_reply, launched_since, recorded_by, recorded_if, recorded_for, with_leg_state, answered_state, with_taken, with_leg, with_call, changed}
use Rattle.mcv_world.specs.Laws.{IsWorld, IsSameLeg, HasReply, LegsStay, RepliesStay}
use Rattle.mcv_world.proofs.Numbers.{same_some, none_when, put_same, put_other, queue_old}
use Rattle.mcv_world.proofs.Replies.{reply_stays}

still : (o : Option Leg) (s : Leg) → o ≡ Some s → IsSameLeg o s
still o s e = record { leg = s; is = e; call = refl; launch = refl; rest = refl }

-- ---- legs

recorded_legs : (r : RoutesValue) (w : World) (s : Leg) (x : ReplyValue) (j : Option ℕ) (n : ℕ) → n < w.next_leg → (recorded_for r w s x j).legs n ≡ w.legs n
recorded_legs r w s x None n low = refl
recorded_legs r w s x (Some k) n low = by_call (w.calls k)
  where
    by_call : (d : Option Call) → (recorded_if r w s x k d).legs n ≡ w.legs n
    by_call None = refl
    by_call (Some call) = by_cases (has_no_outcome s call)
      where
        by_cases : (b : Bool) → (cond b (recorded_by r w k call s.launch.position x) w).legs n ≡ w.legs n
        by_cases true = queue_old w.legs w.next_leg k n call.rest (launched_since r call s.launch.position x) low
        by_cases false = refl

legs_with_state : (w : World) (m : ℕ) (z : Leg) (state : LegState) → w.legs m ≡ Some z → (n : ℕ) (s : Leg) → w.legs n ≡ Some s → IsSameLeg ((with_leg_state w m z state).legs n) s
legs_with_state w m z state at n s e =
    elim (cases_eq m n) [
      | inl q ↦
          let same : z ≡ s = same_some (sym at ∙ ap w.legs q ∙ e) in
          record {
            leg = record z { state = state };
            is = subst (λ i. put w.legs m (Some (record z { state = state })) i ≡ Some (record z { state = state })) q (put_same w.legs m (Some (record z { state = state })));
            call = ap (λ v. v.call) same;
            launch = ap (λ v. v.launch) same;
            rest = ap (λ v. v.rest) same;
          }
      | inr ne ↦ still _ s (put_other w.legs m n (Some (record z { state = state })) ne ∙ e)
    ]

with_leg_legs : (w : World) (o : Option Leg) (f : Leg → World) (n : ℕ) (s : Leg) → w.legs n ≡ Some s → ((z : Leg) → o ≡ Some z → IsSameLeg ((f z).legs n) s) → IsSameLeg ((with_leg w o f).legs n) s
with_leg_legs w None f n s e h = still _ s e
with_leg_legs w (Some z) f n s e h = h z refl

recorded_still : (r : RoutesValue) (w : World) (z : Leg) (x : ReplyValue) (n : ℕ) (s : Leg) → n < w.next_leg → IsSameLeg (w.legs n) s → IsSameLeg ((recorded_for r w z x z.call).legs n) s
recorded_still r w z x n s low h = record { leg = h.leg; is = recorded_legs r w z x z.call n low ∙ h.is; call = h.call; launch = h.launch; rest = h.rest }

changed_legs : (r : RoutesValue) (w : World) (m : Move) → IsWorld r w → (n : ℕ) (s : Leg) → w.legs n ≡ Some s → IsSameLeg ((changed r w m).legs n) s
changed_legs r w (Began op route rest choice) i n s e =
    let call = new_call w op route rest choice in still _ s (queue_old w.legs w.next_leg w.next_call n rest (launched_by r call) (i.number n s e) ∙ e)
changed_legs r w (Answered m x) i n s e = with_leg_legs w (w.legs m) _ n s e (λ z at.
    let y = counted_as z.launch.op x in
    let state = answered_state z.launch.op y in
    recorded_still r (with_leg_state w m z state) z y n s (i.number n s e) (legs_with_state w m z state at n s e))
changed_legs r w (WasSpooled m) i n s e = with_leg_legs w (w.legs m) _ n s e (λ z at. recorded_still r (with_leg_state w m z Spooled) z not_found n s (i.number n s e) (legs_with_state w m z Spooled at n s e))
changed_legs r w (WasRefused m) i n s e = with_leg_legs w (w.legs m) _ n s e (λ z at. recorded_still r w z (fixed_value Lost) n s (i.number n s e) (still _ s e))
changed_legs r w (WasPerformed m) i n s e = with_leg_legs w (w.legs m) _ n s e (λ z at. legs_with_state w m z Performed at n s e)
changed_legs r w (EraBegan since) i n s e = still _ s e
changed_legs r w (Taken k) i n s e = by_call (w.calls k)
  where
    by_call : (d : Option Call) → IsSameLeg ((with_call w d (λ call. record w { calls = put w.calls k (Some (with_taken call)) })).legs n) s
    by_call None = still _ s e
    by_call (Some call) = still _ s e

pub legs_stay : LegsStay
legs_stay r w m i n s e = by_cases (is_move r w m)
  where
    by_cases : (b : Bool) → IsSameLeg ((cond b (changed r w m) w).legs n) s
    by_cases true = changed_legs r w m i n s e
    by_cases false = still _ s e

-- ---- replies

-- a call in whose stead another one with the reply is put
replied_put : (r : RoutesValue) (calls : ℕ → Option Call) (j : ℕ) (d more : Call) (k : ℕ) (x : ReplyValue) → calls j ≡ Some d → (reply_of r d ≡ Some x → reply_of r more ≡ Some x)
    → HasReply r (calls k) x → HasReply r (put calls j (Some more) k) x
replied_put r calls j d more k x at keeps h =
    elim (cases_eq j k) [
      | inl q ↦
          let same : d ≡ h.call = same_some (sym at ∙ ap calls q ∙ h.is) in
          record { call = more; is = subst (λ i. put calls j (Some more) i ≡ Some more) q (put_same calls j (Some more)); reply = keeps (subst (λ v. reply_of r v ≡ Some x) (sym same) h.reply) }
      | inr ne ↦ record { call = h.call; is = put_other calls j k (Some more) ne ∙ h.is; reply = h.reply }
    ]

recorded_replied : (r : RoutesValue) (w : World) (s : Leg) (y : ReplyValue) (j : Option ℕ) (k : ℕ) (x : ReplyValue) → HasReply r (w.calls k) x → HasReply r ((recorded_for r w s y j).calls k) x
recorded_replied r w s y None k x h = h
recorded_replied r w s y (Some j) k x h = by_call (w.calls j) refl
  where
    by_call : (d : Option Call) → w.calls j ≡ d → HasReply r ((recorded_if r w s y j d).calls k) x
    by_call None at = h
    by_call (Some call) at = by_cases (has_no_outcome s call) refl
      where
        by_cases : (b : Bool) → has_no_outcome s call ≡ b → HasReply r ((cond b (recorded_by r w j call s.launch.position y) w).calls k) x
        by_cases true e =
            replied_put r w.calls j call (with_reply call s.launch.position y) k x at
            (λ f. reply_stays r call s.launch.position y x (none_when (outcomes (history_of call.recorded) s.launch.position) e) f) h
        by_cases false e = h

with_leg_replied : (r : RoutesValue) (w : World) (o : Option Leg) (f : Leg → World) (k : ℕ) (x : ReplyValue) → HasReply r (w.calls k) x → ((z : Leg) → HasReply r ((f z).calls k) x) → HasReply r ((with_leg w o f).calls k) x
with_leg_replied r w None f k x h g = h
with_leg_replied r w (Some z) f k x h g = g z

changed_replied : (r : RoutesValue) (w : World) (m : Move) → IsWorld r w → (k : ℕ) (x : ReplyValue) → HasReply r (w.calls k) x → HasReply r ((changed r w m).calls k) x
changed_replied r w (Began op route rest choice) i k x h =
    let low = (i.calls k h.call h.is).0 in
    let ne : w.next_call ≡ k → ⊥ = λ e. omega (arith, low, e) in
    record { call = h.call; is = put_other w.calls w.next_call k (Some (new_call w op route rest choice)) ne ∙ h.is; reply = h.reply }
changed_replied r w (Answered n y) i k x h = with_leg_replied r w (w.legs n) _ k x h (λ z.
    let v = counted_as z.launch.op y in recorded_replied r (with_leg_state w n z (answered_state z.launch.op v)) z v z.call k x h)
changed_replied r w (WasSpooled n) i k x h = with_leg_replied r w (w.legs n) _ k x h (λ z. recorded_replied r (with_leg_state w n z Spooled) z not_found z.call k x h)
changed_replied r w (WasRefused n) i k x h = with_leg_replied r w (w.legs n) _ k x h (λ z. recorded_replied r w z (fixed_value Lost) z.call k x h)
changed_replied r w (WasPerformed n) i k x h = with_leg_replied r w (w.legs n) _ k x h (λ z. h)
changed_replied r w (EraBegan since) i k x h = h
changed_replied r w (Taken j) i k x h = by_call (w.calls j) refl
  where
    by_call : (d : Option Call) → w.calls j ≡ d → HasReply r ((with_call w d (λ call. record w { calls = put w.calls j (Some (with_taken call)) })).calls k) x
    by_call None at = h
    by_call (Some call) at = replied_put r w.calls j call (with_taken call) k x at (λ f. f) h

pub replies_stay : RepliesStay
replies_stay r w m i k x h = by_cases (is_move r w m)
  where
    by_cases : (b : Bool) → HasReply r ((cond b (changed r w m) w).calls k) x
    by_cases true = changed_replied r w m i k x h
    by_cases false = h
