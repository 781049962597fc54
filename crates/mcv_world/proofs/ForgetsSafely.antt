-- Calls and legs that have ended make no difference to later moves.
use Rattle.std.proofs.Common.{◌≡◌, ◌&&◌, not, cond, ℕ, suc, ◌+◌, Bool, true, false, nat_eq, is_none, List, [], ◌∷◌, length, Option, Some, None, refl, sym, ap, ap₂, ◌∙◌, subst, true≢false}
use Rattle.std.specs.Prelude.{is_some}
use Rattle.std.proofs.lemmas.Bool.{and_parts}
use Rattle.mcv_base.specs.Reply.{ReplyValue, not_found, fixed_value}
use Rattle.mcv_base.specs.declared.reply.FixedReply.TheVariants.{Lost}
use Rattle.mcv_base.specs.declared.reply.Outcome.{Outcome}
use Rattle.mcv_route.specs.declared.launch.Launch.{Launch}
use Rattle.mcv_route.specs.Outcomes.{outcomes}
use Rattle.mcv_route.specs.Routes.{RoutesValue}
use Rattle.mcv_world.specs.World.{LegState, Queued, Performed, Spooled, Gone, Call, Leg, World, history_of, launched_by, reply_of, is_counted_delete, is_queued, is_spooled, put}
use Rattle.mcv_world.specs.Moves.{Move, Began, Answered, WasSpooled, WasRefused, WasPerformed, EraBegan, Taken, counted_as, is_error_reply, is_one, has_no_outcome, is_awaited, can_be_answered, can_be_spooled, can_be_refused, can_be_taken, is_move, queued, queue, new_call, began, with_reply, launched_since, recorded_by, recorded_if, recorded_for, with_leg_state, answered_state, with_taken, with_leg, with_call, changed, after}
use Rattle.mcv_world.specs.LiveWorld.{has_ended, running, live_in, live_leg, live_of}
use Rattle.mcv_world.proofs.CallsLegs.{all_at}
use Rattle.mcv_world.specs.Laws.{IsWorld, ForgetsSafely, MovesAreLive, MovesOfEveryWorld}

-- ---- what is left of two worlds is the same

pub record Alike (r : RoutesValue) (w v : World) : Type 0 where
  pub calls : (k : ℕ) → running r (w.calls k) ≡ running r (v.calls k)
  pub legs : (n : ℕ) → live_leg (w.legs n) ≡ live_leg (v.legs n)
  pub since : w.since ≡ v.since
  pub next_call : w.next_call ≡ v.next_call
  pub next_leg : w.next_leg ≡ v.next_leg

pub alike_live : (r : RoutesValue) (w v : World) → Alike r w v → live_of r w ≡ live_of r v
alike_live r w v a = λ i. record { calls = λ k. a.calls k i; legs = λ n. a.legs n i; since = a.since i; next_call = a.next_call i; next_leg = a.next_leg i }

pub twice_running : (r : RoutesValue) (o : Option Call) → running r (running r o) ≡ running r o
twice_running r None = refl
twice_running r (Some call) = by_cases (has_ended r call) refl
  where
    by_cases : (b : Bool) → has_ended r call ≡ b → running r (cond b None (Some call)) ≡ cond b None (Some call)
    by_cases true e = refl
    by_cases false e = ap (λ b. cond b None (Some call)) e

twice_in_state : (s : Leg) (p : LegState) → s.state ≡ p → live_leg (live_in s p) ≡ live_in s p
twice_in_state s Queued e = ap (live_in s) e
twice_in_state s Performed e = refl
twice_in_state s Spooled e = ap (live_in s) e
twice_in_state s Gone e = refl

pub twice_live_leg : (o : Option Leg) → live_leg (live_leg o) ≡ live_leg o
twice_live_leg None = refl
twice_live_leg (Some s) = twice_in_state s s.state refl

pub with_live : (r : RoutesValue) (w : World) → Alike r w (live_of r w)
with_live r w = record { calls = λ k. sym (twice_running r (w.calls k)); legs = λ n. sym (twice_live_leg (w.legs n)); since = refl; next_call = refl; next_leg = refl }

-- ---- the same change of both

pub put_running : (r : RoutesValue) (b : Bool) (x o p : Option Call) → running r o ≡ running r p → running r (cond b x o) ≡ running r (cond b x p)
put_running r true x o p e = refl
put_running r false x o p e = e

pub put_live_leg : (b : Bool) (x o p : Option Leg) → live_leg o ≡ live_leg p → live_leg (cond b x o) ≡ live_leg (cond b x p)
put_live_leg true x o p e = refl
put_live_leg false x o p e = e

pub queue_live_leg : (f g : ℕ → Option Leg) (n k : ℕ) (rest : List ℕ) (ls : List Launch) → ((m : ℕ) → live_leg (f m) ≡ live_leg (g m)) → (m : ℕ) → live_leg (queue f n k rest ls m) ≡ live_leg (queue g n k rest ls m)
queue_live_leg f g n k rest [] e m = e m
queue_live_leg f g n k rest (l ∷ ls) e m =
    queue_live_leg (put f n (Some (queued k rest l))) (put g n (Some (queued k rest l))) (suc n) k rest ls (λ j. put_live_leg (nat_eq n j) (Some (queued k rest l)) (f j) (g j) (e j)) m

module _ (r : RoutesValue) (w v : World) (a : Alike r w v) where
  pub alike_with_state : (n : ℕ) (s : Leg) (state : LegState) → Alike r (with_leg_state w n s state) (with_leg_state v n s state)
  alike_with_state n s state =
      record { calls = a.calls; legs = λ m. put_live_leg (nat_eq n m) (Some (record s { state = state })) (w.legs m) (v.legs m) (a.legs m); since = a.since; next_call = a.next_call; next_leg = a.next_leg }

  alike_put : (k : ℕ) (call : Call) → Alike r (record w { calls = put w.calls k (Some call) }) (record v { calls = put v.calls k (Some call) })
  alike_put k call =
      record { calls = λ j. put_running r (nat_eq k j) (Some call) (w.calls j) (v.calls j) (a.calls j); legs = a.legs; since = a.since; next_call = a.next_call; next_leg = a.next_leg }

  pub alike_recorded_by : (k : ℕ) (call : Call) (p : List ℕ) (x : ReplyValue) → Alike r (recorded_by r w k call p x) (recorded_by r v k call p x)
  alike_recorded_by k call p x =
      let new = launched_since r call p x in
      record {
        calls = λ j. put_running r (nat_eq k j) (Some (with_reply call p x)) (w.calls j) (v.calls j) (a.calls j);
        legs = λ m. queue_live_leg w.legs v.legs w.next_leg k call.rest new a.legs m ∙ ap (λ n. live_leg (queue v.legs n k call.rest new m)) a.next_leg;
        since = a.since;
        next_call = a.next_call;
        next_leg = ap (λ n. n + length new) a.next_leg;
      }

  -- where a call that has ended has an outcome for each of its legs
  alike_recorded_if : (s : Leg) (x : ReplyValue) (k : ℕ) (d : Option Call) → ((call : Call) → d ≡ Some call → has_ended r call ≡ true → has_no_outcome s call ≡ false)
      → Alike r (recorded_if r w s x k d) (recorded_if r v s x k (running r d))
  alike_recorded_if s x k None quiet = a
  alike_recorded_if s x k (Some call) quiet = by_cases (has_ended r call) (quiet call refl)
    where
      both : (b : Bool) → Alike r (cond b (recorded_by r w k call s.launch.position x) w) (cond b (recorded_by r v k call s.launch.position x) v)
      both true = alike_recorded_by k call s.launch.position x
      both false = a

      none : (b : Bool) → b ≡ false → Alike r (cond b (recorded_by r w k call s.launch.position x) w) v
      none true e = absurd (true≢false e)
      none false e = a

      by_cases : (b : Bool) → (b ≡ true → has_no_outcome s call ≡ false) → Alike r (recorded_if r w s x k (Some call)) (recorded_if r v s x k (cond b None (Some call)))
      by_cases true q = none (has_no_outcome s call) (q refl)
      by_cases false q = both (has_no_outcome s call)

  alike_recorded_for : (s : Leg) (x : ReplyValue) (j : Option ℕ) → ((k : ℕ) → v.calls k ≡ running r (w.calls k))
      → ((k : ℕ) (call : Call) → j ≡ Some k → w.calls k ≡ Some call → has_ended r call ≡ true → has_no_outcome s call ≡ false)
      → Alike r (recorded_for r w s x j) (recorded_for r v s x j)
  alike_recorded_for s x None live quiet = a
  alike_recorded_for s x (Some k) live quiet =
      subst (λ d. Alike r (recorded_if r w s x k (w.calls k)) (recorded_if r v s x k d)) (sym (live k)) (alike_recorded_if s x k (w.calls k) (λ call e f. quiet k call refl e f))

  alike_began : (call : Call) → Alike r (began r w call) (began r v call)
  alike_began call =
      let new = launched_by r call in
      record {
        calls = λ j. put_running r (nat_eq w.next_call j) (Some call) (w.calls j) (v.calls j) (a.calls j) ∙ ap (λ n. running r (put v.calls n (Some call) j)) a.next_call;
        legs = λ m. queue_live_leg w.legs v.legs w.next_leg w.next_call call.rest new a.legs m ∙ ap₂ (λ n k. live_leg (queue v.legs n k call.rest new m)) a.next_leg a.next_call;
        since = a.since;
        next_call = ap suc a.next_call;
        next_leg = ap (λ n. n + length new) a.next_leg;
      }

-- ---- a call that has ended records nothing more

some_not_none : (o : Option Outcome) → is_some o ≡ true → is_none o ≡ false
some_not_none None e = absurd (true≢false (sym e))
some_not_none (Some x) e = refl

quiet : (r : RoutesValue) (w : World) → IsWorld r w → (n : ℕ) (s : Leg) → w.legs n ≡ Some s
    → (k : ℕ) (call : Call) → s.call ≡ Some k → w.calls k ≡ Some call → has_ended r call ≡ true → has_no_outcome s call ≡ false
quiet r w i n s at k call own there ended =
    some_not_none (outcomes (history_of call.recorded) s.launch.position)
    (all_at (λ l. is_some (outcomes (history_of call.recorded) l.position)) (launched_by r call) s.launch (and_parts _ _ ended).1 (i.sent n s k call at own there))

-- ---- which moves there are

one_running : (r : RoutesValue) (o : Option Call) (test : Call → Bool) → ((call : Call) → o ≡ Some call → has_ended r call ≡ true → test call ≡ false) → is_one o test ≡ is_one (running r o) test
one_running r None test quiet = refl
one_running r (Some call) test quiet = by_cases (has_ended r call) (quiet call refl)
  where
    by_cases : (b : Bool) → (b ≡ true → test call ≡ false) → test call ≡ is_one (cond b None (Some call)) test
    by_cases true q = q refl
    by_cases false q = refl

one_live_leg : (o : Option Leg) (f g : Leg → Bool) → ((s : Leg) → o ≡ Some s → f s ≡ g s) → ((s : Leg) → s.state ≡ Performed → f s ≡ false) → ((s : Leg) → s.state ≡ Gone → f s ≡ false) → is_one o f ≡ is_one (live_leg o) g
one_live_leg None f g same performed gone = refl
one_live_leg (Some s) f g same performed gone = by_cases s.state refl
  where
    by_cases : (p : LegState) → s.state ≡ p → f s ≡ is_one (live_in s p) g
    by_cases Queued e = same s refl
    by_cases Performed e = performed s e
    by_cases Spooled e = same s refl
    by_cases Gone e = gone s e

awaited_live : (r : RoutesValue) (w : World) (s : Leg) (j : Option ℕ) → ((k : ℕ) (call : Call) → j ≡ Some k → w.calls k ≡ Some call → has_ended r call ≡ true → has_no_outcome s call ≡ false) → is_awaited w s j ≡ is_awaited (live_of r w) s j
awaited_live r w s None quiet = refl
awaited_live r w s (Some k) quiet = one_running r (w.calls k) (has_no_outcome s) (λ call e f. quiet k call refl e f)

taken_ended : (r : RoutesValue) (call : Call) → has_ended r call ≡ true → can_be_taken r call ≡ false
taken_ended r call e = ap (λ b. not b && is_some (reply_of r call)) (and_parts _ _ e).0

pub moves_are_live : MovesAreLive
moves_are_live r w (Began op route rest choice) i = refl
moves_are_live r w (Answered n x) i = one_live_leg (w.legs n) (can_be_answered w x) (can_be_answered (live_of r w) x)
    (λ s at. ap (λ b. is_queued s.state && (b && not (is_counted_delete s && is_error_reply (counted_as s.launch.op x)))) (awaited_live r w s s.call (quiet r w i n s at)))
    (λ s e. ap (λ p. is_queued p && (is_awaited w s s.call && not (is_counted_delete s && is_error_reply (counted_as s.launch.op x)))) e)
    (λ s e. ap (λ p. is_queued p && (is_awaited w s s.call && not (is_counted_delete s && is_error_reply (counted_as s.launch.op x)))) e)
moves_are_live r w (WasSpooled n) i = one_live_leg (w.legs n) can_be_spooled can_be_spooled (λ s at. refl) (λ s e. ap (λ p. is_queued p && is_counted_delete s) e) (λ s e. ap (λ p. is_queued p && is_counted_delete s) e)
moves_are_live r w (WasRefused n) i = one_live_leg (w.legs n) (can_be_refused w) (can_be_refused (live_of r w))
    (λ s at. ap (λ b. is_queued s.state && (b && is_counted_delete s)) (awaited_live r w s s.call (quiet r w i n s at)))
    (λ s e. ap (λ p. is_queued p && (is_awaited w s s.call && is_counted_delete s)) e)
    (λ s e. ap (λ p. is_queued p && (is_awaited w s s.call && is_counted_delete s)) e)
moves_are_live r w (WasPerformed n) i = one_live_leg (w.legs n) (λ s. is_spooled s.state) (λ s. is_spooled s.state) (λ s at. refl) (λ s e. ap is_spooled e) (λ s e. ap is_spooled e)
moves_are_live r w (EraBegan since) i = refl
moves_are_live r w (Taken k) i = one_running r (w.calls k) (can_be_taken r) (λ call e f. taken_ended r call f)

-- ---- what they change

leg_alike : (r : RoutesValue) (w v : World) (o : Option Leg) (test : Leg → Bool) (f g : Leg → World) → is_one o test ≡ true
    → ((s : Leg) → o ≡ Some s → Alike r (f s) (g s)) → ((s : Leg) → s.state ≡ Performed → test s ≡ false) → ((s : Leg) → s.state ≡ Gone → test s ≡ false)
    → Alike r (with_leg w o f) (with_leg v (live_leg o) g)
leg_alike r w v None test f g e same performed gone = absurd (true≢false (sym e))
leg_alike r w v (Some s) test f g e same performed gone = by_cases s.state refl
  where
    by_cases : (p : LegState) → s.state ≡ p → Alike r (f s) (with_leg v (live_in s p) g)
    by_cases Queued q = same s refl
    by_cases Performed q = absurd (true≢false (sym e ∙ performed s q))
    by_cases Spooled q = same s refl
    by_cases Gone q = absurd (true≢false (sym e ∙ gone s q))

taken_alike : (r : RoutesValue) (w : World) (k : ℕ) (o : Option Call) → is_one o (can_be_taken r) ≡ true
    → Alike r (with_call w o (λ call. record w { calls = put w.calls k (Some (with_taken call)) })) (with_call (live_of r w) (running r o) (λ call. record (live_of r w) { calls = put (live_of r w).calls k (Some (with_taken call)) }))
taken_alike r w k None e = absurd (true≢false (sym e))
taken_alike r w k (Some call) e = by_cases (has_ended r call) (taken_ended r call)
  where
    by_cases : (b : Bool) → (b ≡ true → can_be_taken r call ≡ false)
        → Alike r (record w { calls = put w.calls k (Some (with_taken call)) }) (with_call (live_of r w) (cond b None (Some call)) (λ call. record (live_of r w) { calls = put (live_of r w).calls k (Some (with_taken call)) }))
    by_cases true q = absurd (true≢false (sym e ∙ q refl))
    by_cases false q = alike_put r w (live_of r w) (with_live r w) k (with_taken call)

recorded_alike : (r : RoutesValue) (w : World) → IsWorld r w → (n : ℕ) (s : Leg) (state : LegState) (x : ReplyValue) → w.legs n ≡ Some s
    → Alike r (recorded_for r (with_leg_state w n s state) s x s.call) (recorded_for r (with_leg_state (live_of r w) n s state) s x s.call)
recorded_alike r w i n s state x at =
    alike_recorded_for r (with_leg_state w n s state) (with_leg_state (live_of r w) n s state) (alike_with_state r w (live_of r w) (with_live r w) n s state) s x s.call (λ k. refl) (quiet r w i n s at)

changed_alike : (r : RoutesValue) (w : World) (m : Move) → IsWorld r w → is_move r w m ≡ true → Alike r (changed r w m) (changed r (live_of r w) m)
changed_alike r w (Began op route rest choice) i e = alike_began r w (live_of r w) (with_live r w) (new_call w op route rest choice)
changed_alike r w (Answered n x) i e = leg_alike r w (live_of r w) (w.legs n) (can_be_answered w x) _ _ e
    (λ s at. recorded_alike r w i n s (answered_state s.launch.op (counted_as s.launch.op x)) (counted_as s.launch.op x) at)
    (λ s q. ap (λ p. is_queued p && (is_awaited w s s.call && not (is_counted_delete s && is_error_reply (counted_as s.launch.op x)))) q)
    (λ s q. ap (λ p. is_queued p && (is_awaited w s s.call && not (is_counted_delete s && is_error_reply (counted_as s.launch.op x)))) q)
changed_alike r w (WasSpooled n) i e = leg_alike r w (live_of r w) (w.legs n) can_be_spooled _ _ e (λ s at. recorded_alike r w i n s Spooled not_found at)
    (λ s q. ap (λ p. is_queued p && is_counted_delete s) q) (λ s q. ap (λ p. is_queued p && is_counted_delete s) q)
changed_alike r w (WasRefused n) i e = leg_alike r w (live_of r w) (w.legs n) (can_be_refused w) _ _ e
    (λ s at. alike_recorded_for r w (live_of r w) (with_live r w) s (fixed_value Lost) s.call (λ k. refl) (quiet r w i n s at))
    (λ s q. ap (λ p. is_queued p && (is_awaited w s s.call && is_counted_delete s)) q)
    (λ s q. ap (λ p. is_queued p && (is_awaited w s s.call && is_counted_delete s)) q)
changed_alike r w (WasPerformed n) i e = leg_alike r w (live_of r w) (w.legs n) (λ s. is_spooled s.state) _ _ e (λ s at. alike_with_state r w (live_of r w) (with_live r w) n s Performed) (λ s q. ap is_spooled q) (λ s q. ap is_spooled q)
changed_alike r w (EraBegan since) i e = let a = with_live r w in record { calls = a.calls; legs = a.legs; since = refl; next_call = refl; next_leg = refl }
changed_alike r w (Taken k) i e = taken_alike r w k (w.calls k) e

pub forgets_safely : ForgetsSafely
forgets_safely r w m i =
    by_cases (is_move r w m) refl ∙ ap (λ b. live_of r (cond b (changed r (live_of r w) m) (live_of r w))) (moves_are_live r w m i)
  where
    by_cases : (b : Bool) → is_move r w m ≡ b → live_of r (cond b (changed r w m) w) ≡ live_of r (cond b (changed r (live_of r w) m) (live_of r w))
    by_cases true e = alike_live r _ _ (changed_alike r w m i e)
    by_cases false e = alike_live r _ _ (with_live r w)

pub moves_of_every_world : MovesOfEveryWorld
moves_of_every_world r m old new p w i e = forgets_safely r w m i ∙ ap (λ u. live_of r (after r u m)) e ∙ sym p
