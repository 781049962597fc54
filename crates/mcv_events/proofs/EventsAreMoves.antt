-- Each event on the rows of a core is its move.
use Rattle.std.proofs.Common.{◌≡◌, ◌&&◌, not, cond, inl, inr, ℕ, suc, ◌+◌, ◌<◌, Bool, true, false, nat_eq, is_none, List, [], length, Option, Some, None, option_map, refl, sym, ap, ap₂, ◌∙◌, subst, arith, true≢false}
use Rattle.std.specs.Prelude.{filter, is_some, slice_get}
use Rattle.std.proofs.lemmas.Bool.{cases_Bool, cases_eq}
use Rattle.mcv_base.specs.declared.reply.FixedReply.TheVariants.{Lost}
use Rattle.mcv_base.specs.Operation.{is_delete}
use Rattle.mcv_base.specs.declared.request.Request.{Request}
use Rattle.mcv_base.specs.Reply.{ReplyValue, not_found, fixed_value}
use Rattle.mcv_route.specs.declared.launch.Launch.{Launch}
use Rattle.mcv_route.specs.Outcomes.{outcomes}
use Rattle.mcv_route.specs.Routes.{RoutesValue}
use Rattle.mcv_world.specs.World.{LegState, Performed, Spooled, Gone, Call, Leg, World, history_of, launched_by, is_settled, is_counted_delete, is_queued, is_spooled, put}
use Rattle.mcv_world.specs.Moves.{Move, Answered, WasSpooled, WasRefused, WasPerformed, EraBegan, Taken, counted_as, is_error_reply, is_one, has_no_outcome, is_awaited, can_be_answered, can_be_spooled, can_be_refused, can_be_taken, is_move, queue, new_call, began, recorded_by, recorded_if, recorded_for, with_leg_state, answered_state, with_taken, with_leg, with_call, changed, after}
use Rattle.mcv_world.specs.LiveWorld.{has_ended, running, live_in, live_leg, live_of}
use Rattle.mcv_events.specs.Entries.{IsLaidOut, is_launched}
use Rattle.mcv_events.specs.Rows.{State, Sent, Held, InSpool, LegRow, CallRow, Payload, Rows, leg_state, leg_of, world_of, is_unanswered, IsCallRow, IsCore, queued_rows, recorded_rows, with_leg_row, CanRecord}
use Rattle.mcv_events.specs.Events.{recorded_rows_if, recorded_rows_for, in_state, new_row, began_rows, taken_rows, StatesAreNoMoves, AnsweredMoves, SpooledMoves, RefusedMoves, PerformedMoves, BeganMoves, TakenMoves, EraMoves, StatesKeepCores}
use Rattle.mcv_world.proofs.Numbers.{same_some, none_when, no_some, put_same, put_other, put_cases, at_some}
use Rattle.mcv_world.proofs.ForgetsSafely.{Alike, alike_live, alike_recorded_by}
use Rattle.mcv_events.proofs.Numbering
use Rattle.mcv_events.proofs.Recording.{awaits_call, call_awaits, live_leg_of, running_live, recording_is_recorded, recording_keeps_core, some_row}
use Rattle.mcv_world.proofs.CallsLegs.{all_at}
use Rattle.mcv_events.proofs.Entries.{launched_are_entries, not_true}

-- ---- a leg's row changes

leg_of_at : (w : Rows) (n : ℕ) (s : LegRow) → w.legs n ≡ Some s → (world_of w).legs n ≡ Some (leg_of s)
leg_of_at w n s at = ap (option_map leg_of) at

pub states_are_no_moves : StatesAreNoMoves
states_are_no_moves w n s t at same = λ j. record { calls = (world_of w).calls; legs = λ m. legs_are m j; since = w.since; next_call = w.next_call; next_leg = w.next_leg }
  where
    legs_are : (m : ℕ) → option_map leg_of (put w.legs n (Some (in_state s t)) m) ≡ option_map leg_of (w.legs m)
    legs_are m =
        elim (cases_eq n m) [
          | inl q ↦
              ap (option_map leg_of) (subst (λ v. put w.legs n (Some (in_state s t)) v ≡ Some (in_state s t)) q (put_same w.legs n (Some (in_state s t))))
              ∙ ap (λ p. Some (record { call = s.call; launch = s.launch; rest = s.rest; state = p })) same ∙ sym (ap (option_map leg_of) (ap w.legs (sym q) ∙ at))
          | inr ne ↦ ap (option_map leg_of) (put_other w.legs n m (Some (in_state s t)) ne)
        ]

pub states_keep_cores : StatesKeepCores
states_keep_cores r w n s t i at opens shuts =
    record {
      calls_below = i.calls_below;
      legs_below = λ m high. elim (cases_eq n m) [
        | inl q ↦ no_some (sym (i.legs_below n (omega (arith, high, q))) ∙ at)
        | inr ne ↦ put_other w.legs n m (Some (in_state s t)) ne ∙ i.legs_below m high
      ];
      call = i.call;
      own = λ m z k c f g h. elim (put_cases w.legs n m (Some (in_state s t)) z f) [
        | inl q ↦
            let its = i.own n s k c at (ap (λ v. v.call) (same_some q.1) ∙ g) h in
            let same = same_some q.1 in
            (subst (λ v. slice_get c.entries v.entry ≡ Some v.launch) same its.0, ap c.legs (sym (ap (λ v. v.entry) same)) ∙ its.1 ∙ ap (λ v. Some v) q.0)
        | inr q ↦ i.own m z k c q.1 g h
      ];
      awaited = λ m z f g. elim (put_cases w.legs n m (Some (in_state s t)) z f) [
        | inl q ↦
            let same = same_some q.1 in
            let a = awaits_call w.calls s (i.awaited n s at (opens (ap (λ v. is_unanswered v.state) same ∙ g))) in
            call_awaits w.calls z (a.0, a.1, sym (ap (λ v. v.call) same) ∙ a.2, a.3, subst (λ v. outcomes (history_of a.1.call.recorded) v.launch.position ≡ None) same a.4)
        | inr q ↦ i.awaited m z q.1 g
      ];
      counted = λ m z f g. elim (put_cases w.legs n m (Some (in_state s t)) z f) [
        | inl q ↦
            let same = same_some q.1 in
            ap (λ (v : LegRow). is_counted_delete (leg_of v)) (sym same) ∙ shuts (ap (λ v. is_unanswered v.state) same ∙ g)
        | inr q ↦ i.counted m z q.1 g
      ];
      owner = λ m z k f g. elim (put_cases w.legs n m (Some (in_state s t)) z f) [
        | inl q ↦ i.owner n s k at (ap (λ v. v.call) (same_some q.1) ∙ g)
        | inr q ↦ i.owner m z k q.1 g
      ];
    }

pub core_dropped : (r : RoutesValue) (w : Rows) (n : ℕ) → IsCore r w → IsCore r (with_leg_row w n None)
core_dropped r w n i =
    record {
      calls_below = i.calls_below;
      legs_below = λ m high. put_none (nat_eq n m) (w.legs m) (i.legs_below m high);
      call = i.call;
      own = λ m z k c f g h. i.own m z k c (was m z f) g h;
      awaited = λ m z f g. i.awaited m z (was m z f) g;
      counted = λ m z f g. i.counted m z (was m z f) g;
      owner = λ m z k f g. i.owner m z k (was m z f) g;
    }
  where
    put_none : (b : Bool) (o : Option LegRow) → o ≡ None → cond b None o ≡ None
    put_none true o e = refl
    put_none false o e = e

    was : (m : ℕ) (z : LegRow) → put w.legs n None m ≡ Some z → w.legs m ≡ Some z
    was m z f = elim (put_cases w.legs n m None z f) [ inl q ↦ no_some q.1 | inr q ↦ q.1 ]

-- ---- and its call records a reply

pub world_of_is_live : (r : RoutesValue) (w : Rows) → IsCore r w → world_of w ≡ live_of r (world_of w)
world_of_is_live r w i = λ j. record { calls = λ k. sym (running_live r w i k) j; legs = λ n. sym (live_leg_of (w.legs n)) j; since = w.since; next_call = w.next_call; next_leg = w.next_leg }

is_none_of : {A : Type 0} (o : Option A) → o ≡ None → is_none o ≡ true
is_none_of o e = ap is_none e

-- the second rows are the first ones, but that the leg n isn't unanswered in them
module _ (r : RoutesValue) (w w2 : Rows) (n : ℕ) (s : LegRow) (i : IsCore r w) (at : w.legs n ≡ Some s) (i2 : IsCore r w2) (calls : w2.calls ≡ w.calls)
    (others : (m : ℕ) → (n ≡ m → ⊥) → w2.legs m ≡ w.legs m) (shut : (z : LegRow) → w2.legs n ≡ Some z → is_unanswered z.state ≡ true → ⊥) where
  can_record : (k : ℕ) (c : CallRow) → s.call ≡ Some k → w2.calls k ≡ Some c → has_no_outcome (leg_of s) c.call ≡ true → CanRecord r w2 k c s.entry s.launch
  can_record k c own there no_outcome =
      let before : w.calls k ≡ Some c = ap (λ f. f k) (sym calls) ∙ there in
      let its = i.own n s k c at own before in
      record {
        there = there;
        entry = its.0;
        launched = ap is_some its.1;
        no_outcome = none_when (outcomes (history_of c.call.recorded) s.launch.position) no_outcome;
        shut = λ m z f g o same. elim (cases_eq n m) [
          | inl q ↦ shut z (ap w2.legs q ∙ f) o
          | inr ne ↦
              let its2 = i.own m z k c (sym (others m ne) ∙ f) g before in
              ne (same_some (sym its.1 ∙ ap c.legs (sym same) ∙ its2.1))
        ];
      }

  module _ (v : World) (a : Alike r (world_of w2) v) (v_calls : v.calls ≡ (world_of w2).calls) (x : ReplyValue) where
    through_if : (k : ℕ) → s.call ≡ Some k → (d : Option CallRow) → w2.calls k ≡ d → (world_of (recorded_rows_if r w2 s x k d) ≡ live_of r (recorded_if r v (leg_of s) x k (option_map (λ c. c.call) d))) × IsCore r (recorded_rows_if r w2 s x k d)
    through_if k own None there = (world_of_is_live r w2 i2 ∙ alike_live r (world_of w2) v a, i2)
    through_if k own (Some c) there = by_cases (has_no_outcome (leg_of s) c.call) refl
      where
        by_cases : (b : Bool) → has_no_outcome (leg_of s) c.call ≡ b
            → (world_of (cond b (recorded_rows r w2 k c s.launch.position x) w2) ≡ live_of r (cond b (recorded_by r v k c.call s.launch.position x) v)) × IsCore r (cond b (recorded_rows r w2 k c s.launch.position x) w2)
        by_cases true f =
            let can = can_record k c own there f in (
              recording_is_recorded r w2 k c s.entry s.launch x i2 can
                  ∙ alike_live r (recorded_by r (world_of w2) k c.call s.launch.position x) (recorded_by r v k c.call s.launch.position x) (alike_recorded_by r (world_of w2) v a k c.call s.launch.position x),
              recording_keeps_core r w2 k c s.entry s.launch x i2 can,
            )
        by_cases false f = (world_of_is_live r w2 i2 ∙ alike_live r (world_of w2) v a, i2)

    pub through : (j : Option ℕ) → s.call ≡ j → (world_of (recorded_rows_for r w2 s x j) ≡ live_of r (recorded_for r v (leg_of s) x j)) × IsCore r (recorded_rows_for r w2 s x j)
    through None own = (world_of_is_live r w2 i2 ∙ alike_live r (world_of w2) v a, i2)
    through (Some k) own =
        let q = through_if k own (w2.calls k) refl in
        (q.0 ∙ ap (λ f. live_of r (recorded_if r v (leg_of s) x k (f k))) (sym v_calls), q.1)

-- ---- moves

-- where there is such a move, the world after it is the changed one
moved : (r : RoutesValue) (w : World) (m : Move) → is_move r w m ≡ true → live_of r (changed r w m) ≡ live_of r (after r w m)
moved r w m e = ap (λ b. live_of r (cond b (changed r w m) w)) (sym e)

one_at : (w : Rows) (n : ℕ) (s : LegRow) (test : Leg → Bool) → w.legs n ≡ Some s → test (leg_of s) ≡ true → is_one ((world_of w).legs n) test ≡ true
one_at w n s test at e = ap (λ o. is_one o test) (leg_of_at w n s at) ∙ e

awaited_at : (w : Rows) (s : LegRow) (k : ℕ) (c : CallRow) → s.call ≡ Some k → w.calls k ≡ Some c → has_no_outcome (leg_of s) c.call ≡ true → is_awaited (world_of w) (leg_of s) s.call ≡ true
awaited_at w s k c own there e = ap (is_awaited (world_of w) (leg_of s)) own ∙ ap (λ o. is_one o (has_no_outcome (leg_of s))) (ap (option_map (λ d. d.call)) there) ∙ e

-- Performed and Gone are no states of a live leg
ended_state : (s : Leg) (b : Bool) → live_in s (cond b Performed Gone) ≡ None
ended_state s true = refl
ended_state s false = refl

module _ (r : RoutesValue) (w : Rows) (n : ℕ) (s : LegRow) (i : IsCore r w) (at : w.legs n ≡ Some s) where
  -- a row that is dropped is a leg that comes to such a state
  dropped_alike : (state : LegState) → live_in (record (leg_of s) { state = state }) state ≡ None → Alike r (world_of (with_leg_row w n None)) (with_leg_state (world_of w) n (leg_of s) state)
  dropped_alike state gone = record { calls = λ k. refl; legs = λ m. by_cases (nat_eq n m) m; since = refl; next_call = refl; next_leg = refl }
    where
      by_cases : (b : Bool) (m : ℕ) → live_leg (option_map leg_of (cond b None (w.legs m))) ≡ live_leg (cond b (Some (record (leg_of s) { state = state })) (option_map leg_of (w.legs m)))
      by_cases true m = sym gone
      by_cases false m = refl

  drops : (x : ReplyValue) (state : LegState) → live_in (record (leg_of s) { state = state }) state ≡ None
      → (world_of (recorded_rows_for r (with_leg_row w n None) s x s.call) ≡ live_of r (recorded_for r (with_leg_state (world_of w) n (leg_of s) state) (leg_of s) x s.call)) × IsCore r (recorded_rows_for r (with_leg_row w n None) s x s.call)
  drops x state gone =
      through r w (with_leg_row w n None) n s i at (core_dropped r w n i) refl
      (λ m ne. put_other w.legs n m None ne) (λ z f o. no_some (sym (put_same w.legs n None) ∙ f))
      (with_leg_state (world_of w) n (leg_of s) state) (dropped_alike state gone) refl x s.call refl

  -- a row in another state is a leg that comes to what this state is of a leg
  stays : (x : ReplyValue) (t : State) → is_unanswered t ≡ false → is_counted_delete (leg_of s) ≡ true
      → (world_of (recorded_rows_for r (with_leg_row w n (Some (in_state s t))) s x s.call) ≡ live_of r (recorded_for r (with_leg_state (world_of w) n (leg_of s) (leg_state t)) (leg_of s) x s.call)) × IsCore r (recorded_rows_for r (with_leg_row w n (Some (in_state s t))) s x s.call)
  stays x t shut counted =
      through r w (with_leg_row w n (Some (in_state s t))) n s i at
      (states_keep_cores r w n s t i at (λ o. absurd (true≢false (sym o ∙ shut))) (λ o. counted)) refl
      (λ m ne. put_other w.legs n m (Some (in_state s t)) ne)
      (λ z f o. true≢false (sym o ∙ sym (ap (λ (v : LegRow). is_unanswered v.state) (same_some (sym (put_same w.legs n (Some (in_state s t))) ∙ f))) ∙ shut))
      (with_leg_state (world_of w) n (leg_of s) (leg_state t)) (record { calls = λ k. refl; legs = λ m. by_cases (nat_eq n m) m; since = refl; next_call = refl; next_leg = refl }) refl x s.call refl
    where
      by_cases : (b : Bool) (m : ℕ) → live_leg (option_map leg_of (cond b (Some (in_state s t)) (w.legs m))) ≡ live_leg (cond b (Some (record (leg_of s) { state = leg_state t })) (option_map leg_of (w.legs m)))
      by_cases true m = refl
      by_cases false m = refl

  state_is : (t : State) → s.state ≡ t → (leg_of s).state ≡ leg_state t
  state_is t e = ap leg_state e

pub answered_moves : AnsweredMoves
answered_moves r w n s x i at sent fine =
    let y = counted_as s.launch.op x in
    let a = awaits_call w.calls s (i.awaited n s at (ap is_unanswered sent)) in
    let awaited = awaited_at w s a.0 a.1 a.2 a.3 (is_none_of (outcomes (history_of a.1.call.recorded) s.launch.position) a.4) in
    let can : can_be_answered (world_of w) x (leg_of s) ≡ true =
    ap (λ p. is_queued p && (is_awaited (world_of w) (leg_of s) s.call && not (is_counted_delete (leg_of s) && is_error_reply y))) (state_is r w n s i at Sent sent)
    ∙ ap₂ (λ b c. b && not c) awaited fine in
    let is = one_at w n s (can_be_answered (world_of w) x) at can in
    let d = drops r w n s i at y (answered_state s.launch.op y) (ended_state (record (leg_of s) { state = answered_state s.launch.op y }) (is_delete s.launch.op && not (is_error_reply y))) in
    record {
      is = is;
      moves = d.0 ∙ ap (λ o. live_of r (with_leg (world_of w) o (λ z. recorded_for r (with_leg_state (world_of w) n z (answered_state z.launch.op (counted_as z.launch.op x))) z (counted_as z.launch.op x) z.call))) (sym (leg_of_at w n s at)) ∙ moved r (world_of w) (Answered n x) is;
      core = d.1;
    }

pub spooled_moves : SpooledMoves
spooled_moves r w n s i at held =
    let counted = i.counted n s at (ap is_unanswered held) in
    let can : can_be_spooled (leg_of s) ≡ true = ap (λ p. is_queued p && is_counted_delete (leg_of s)) (state_is r w n s i at Held held) ∙ counted in
    let is = one_at w n s can_be_spooled at can in
    let d = stays r w n s i at not_found InSpool refl counted in
    record {
      is = is;
      moves = d.0 ∙ ap (λ o. live_of r (with_leg (world_of w) o (λ z. recorded_for r (with_leg_state (world_of w) n z Spooled) z not_found z.call))) (sym (leg_of_at w n s at)) ∙ moved r (world_of w) (WasSpooled n) is;
      core = d.1;
    }

pub refused_moves : RefusedMoves
refused_moves r w n s k c i at held own there no_outcome =
    let counted = i.counted n s at (ap is_unanswered held) in
    let can : can_be_refused (world_of w) (leg_of s) ≡ true =
    ap (λ p. is_queued p && (is_awaited (world_of w) (leg_of s) s.call && is_counted_delete (leg_of s))) (state_is r w n s i at Held held) ∙ ap₂ (λ b c. b && c) (awaited_at w s k c own there no_outcome) counted in
    let is = one_at w n s (can_be_refused (world_of w)) at can in
    let d = through r w w n s i at i refl (λ m ne. refl)
    (λ z f o. true≢false (sym o ∙ ap (λ (v : LegRow). is_unanswered v.state) (same_some (sym f ∙ at)) ∙ ap is_unanswered held))
    (world_of w) (record { calls = λ j. refl; legs = λ m. refl; since = refl; next_call = refl; next_leg = refl }) refl (fixed_value Lost) s.call refl in
    record {
      is = is;
      moves = d.0 ∙ ap (λ o. live_of r (with_leg (world_of w) o (λ z. recorded_for r (world_of w) z (fixed_value Lost) z.call))) (sym (leg_of_at w n s at)) ∙ moved r (world_of w) (WasRefused n) is;
      core = d.1;
    }

pub performed_moves : PerformedMoves
performed_moves r w n s i at spooled =
    let is = one_at w n s (λ z. is_spooled z.state) at (ap is_spooled spooled) in
    record {
      is = is;
      moves =
          world_of_is_live r (with_leg_row w n None) (core_dropped r w n i) ∙ alike_live r _ _ (dropped_alike r w n s i at Performed refl)
          ∙ ap (λ o. live_of r (with_leg (world_of w) o (λ z. with_leg_state (world_of w) n z Performed))) (sym (leg_of_at w n s at)) ∙ moved r (world_of w) (WasPerformed n) is;
      core = core_dropped r w n i;
    }

-- the era is none of what holds of a core's rows
pub era_keeps_core : (r : RoutesValue) (w : Rows) (since : Option ℕ) → IsCore r w → IsCore r (record w { since = since })
era_keeps_core r w since i = record { calls_below = i.calls_below; legs_below = i.legs_below; call = i.call; own = i.own; awaited = i.awaited; counted = i.counted; owner = i.owner }

pub era_moves : EraMoves
era_moves r w since i other =
    let core = era_keeps_core r w since i in
    record { is = other; moves = world_of_is_live r (record w { since = since }) core ∙ moved r (world_of w) (EraBegan since) other; core = core }

-- ---- a reply is taken

module _ (r : RoutesValue) (w : Rows) (k : ℕ) (c : CallRow) (i : IsCore r w) (there : w.calls k ≡ Some c) where
  abbrev c3 : CallRow
  c3 = record c { call = with_taken c.call }

  abbrev calls3 : ℕ → Option CallRow
  calls3 = put w.calls k (cond (has_ended r (with_taken c.call)) None (Some (record c { call = with_taken c.call })))

  taken_calls : (m : ℕ) → option_map (λ d. d.call) (calls3 m) ≡ running r (put (world_of w).calls k (Some (with_taken c.call)) m)
  taken_calls m = by_cases (nat_eq k m)
    where
      ended : (b : Bool) → option_map (λ d. d.call) (cond b None (Some (record c { call = with_taken c.call }))) ≡ cond b None (Some (with_taken c.call))
      ended true = refl
      ended false = refl

      by_cases : (b : Bool) → option_map (λ d. d.call) (cond b (cond (has_ended r (with_taken c.call)) None (Some (record c { call = with_taken c.call }))) (w.calls m)) ≡ running r (cond b (Some (with_taken c.call)) (option_map (λ d. d.call) (w.calls m)))
      by_cases true = ended (has_ended r (with_taken c.call))
      by_cases false = sym (running_live r w i m)

  taken_live : world_of (taken_rows r w k c) ≡ live_of r (record (world_of w) { calls = put (world_of w).calls k (Some (with_taken c.call)) })
  taken_live = λ j. record { calls = λ m. taken_calls m j; legs = λ m. sym (live_leg_of (w.legs m)) j; since = w.since; next_call = w.next_call; next_leg = w.next_leg }

  -- a leg without an outcome keeps the call running
  open_runs : (m : ℕ) (s : LegRow) → w.legs m ≡ Some s → s.call ≡ Some k → outcomes (history_of c.call.recorded) s.launch.position ≡ None → has_ended r (with_taken c.call) ≡ false
  open_runs m s at own none = not_true (has_ended r (with_taken c.call)) (λ f.
      let its = i.own m s k c at own there in
      let q = at_some s.launch.position (launched_by r c.call) (sym ((i.call k c there).linked s.entry s.launch its.0) ∙ ap is_some its.1) in
      let some = all_at (λ v. is_some (outcomes (history_of c.call.recorded) v.position)) (launched_by r c.call) q.0 f q.1 in
      true≢false (sym some ∙ ap (λ v. is_some (outcomes (history_of c.call.recorded) v)) q.2 ∙ ap is_some none))

  taken_core : IsCore r (taken_rows r w k c)
  taken_core =
      let row = i.call k c there in
      record {
        calls_below = λ j high. elim (cases_eq k j) [
          | inl q ↦ no_some (sym (i.calls_below k (omega (arith, high, q))) ∙ there)
          | inr ne ↦ put_other w.calls k j (cond (has_ended r (with_taken c.call)) None (Some (record c { call = with_taken c.call }))) ne ∙ i.calls_below j high
        ];
        legs_below = i.legs_below;
        call = λ j d f. elim (put_cases w.calls k j (cond (has_ended r (with_taken c.call)) None (Some (record c { call = with_taken c.call }))) d f) [
          | inl q ↦
              let s = some_row (has_ended r (with_taken c.call)) (record c { call = with_taken c.call }) d q.1 in
              subst (IsCallRow r) s.1 (record { laid = record { all = row.laid.all; rising = row.laid.rising }; runs = s.0; linked = row.linked; closed = row.closed })
          | inr q ↦ i.call j d q.1
        ];
        own = λ m s j d f g t. elim (put_cases w.calls k j (cond (has_ended r (with_taken c.call)) None (Some (record c { call = with_taken c.call }))) d t) [
          | inl q ↦
              subst (λ v. (slice_get v.entries s.entry ≡ Some s.launch) × (v.legs s.entry ≡ Some m)) (some_row (has_ended r (with_taken c.call)) (record c { call = with_taken c.call }) d q.1).1
              (i.own m s k c f (g ∙ ap (λ v. Some v) (sym q.0)) there)
          | inr q ↦ i.own m s j d f g q.1
        ];
        awaited = λ m s f o. let a = awaits_call w.calls s (i.awaited m s f o) in
            call_awaits calls3 s (elim (cases_eq k a.0) [
              | inl q ↦
                  let own : s.call ≡ Some k = a.2 ∙ ap (λ v. Some v) (sym q) in
                  let same : a.1 ≡ c = same_some (sym a.3 ∙ ap w.calls (sym q) ∙ there) in
                  let none : outcomes (history_of c.call.recorded) s.launch.position ≡ None = subst (λ v. outcomes (history_of v.call.recorded) s.launch.position ≡ None) same a.4 in
                  (k, record c { call = with_taken c.call }, own, put_same w.calls k (cond (has_ended r (with_taken c.call)) None (Some (record c { call = with_taken c.call }))) ∙ ap (λ b. cond b None (Some (record c { call = with_taken c.call }))) (open_runs m s f own none), none)
              | inr ne ↦ (a.0, a.1, a.2, put_other w.calls k a.0 (cond (has_ended r (with_taken c.call)) None (Some (record c { call = with_taken c.call }))) ne ∙ a.3, a.4)
            ]);
        counted = i.counted;
        owner = i.owner;
      }

pub taken_moves : TakenMoves
taken_moves r w k c i there untaken replied =
    let call_at : (world_of w).calls k ≡ Some c.call = ap (option_map (λ d. d.call)) there in
    let is : is_move r (world_of w) (Taken k) ≡ true = ap (λ o. is_one o (can_be_taken r)) call_at ∙ ap₂ (λ a b. not a && b) untaken replied in
    record {
      is = is;
      moves =
          taken_live r w k c i there ∙ ap (λ o. live_of r (with_call (world_of w) o (λ call. record (world_of w) { calls = put (world_of w).calls k (Some (with_taken call)) }))) (sym call_at)
          ∙ moved r (world_of w) (Taken k) is;
      core = taken_core r w k c i there;
    }

-- ---- a call begins

module _ (r : RoutesValue) (w : Rows) (call : Call) (request : Option Request) (es : List Launch) (i : IsCore r w) (laid : IsLaidOut r call es) (untaken : call.taken ≡ false) (silent : call.recorded ≡ []) where
  abbrev due : Launch → Bool
  due = is_launched r call

  abbrev load : Payload
  load = record { rest = call.rest; request = request }

  abbrev new : CallRow
  new = new_row r w call request es

  abbrev calls4 : ℕ → Option CallRow
  calls4 = put w.calls w.next_call (Some (new_row r w call request es))

  launched_is : launched_by r call ≡ filter due es
  launched_is = launched_are_entries r call es laid

  runs : has_ended r call ≡ false
  runs = ap (λ b. b && is_settled r call) untaken

  nothing : (p : List ℕ) → outcomes (history_of call.recorded) p ≡ None
  nothing p = ap (λ h. outcomes (history_of h) p) silent

  began_calls : (m : ℕ) → option_map (λ d. d.call) (calls4 m) ≡ running r (put (world_of w).calls w.next_call (Some call) m)
  began_calls m = by_cases (nat_eq w.next_call m)
    where
      by_cases : (b : Bool) → option_map (λ d. d.call) (cond b (Some (new_row r w call request es)) (w.calls m)) ≡ running r (cond b (Some call) (option_map (λ d. d.call) (w.calls m)))
      by_cases true = ap (λ b. cond b None (Some call)) (sym runs)
      by_cases false = sym (running_live r w i m)

  began_legs : (m : ℕ) → option_map leg_of (queued_rows due w.next_call load w.next_leg 0 es w.legs m) ≡ live_leg (queue (world_of w).legs w.next_leg w.next_call call.rest (launched_by r call) m)
  began_legs m =
      let q = Numbering.rows_queue due w.next_call load w.next_leg 0 es w.legs (world_of w).legs (λ j. refl) m in
      sym (live_leg_of (queued_rows due w.next_call load w.next_leg 0 es w.legs m)) ∙ ap live_leg (q ∙ ap (λ ls. queue (world_of w).legs w.next_leg w.next_call call.rest ls m) (sym launched_is))

  began_live : world_of (began_rows r w call request es) ≡ live_of r (began r (world_of w) call)
  began_live = λ j. record {
    calls = λ m. began_calls m j;
    legs = λ m. began_legs m j;
    since = w.since;
    next_call = suc w.next_call;
    next_leg = ap (λ ls. w.next_leg + length ls) (sym launched_is) j;
  }

  began_linked : (e : ℕ) (l : Launch) → slice_get es e ≡ Some l → is_some (new.legs e) ≡ is_launched r call l
  began_linked e l at =
      let zero_plus : e ≡ 0 + e = omega arith in
      elim (cases_Bool (due l)) [
        | inl t ↦ Numbering.numbered_due due w.next_leg 0 es (λ j. None) e e l at zero_plus t ∙ sym t
        | inr t ↦ ap is_some (Numbering.numbered_rest due w.next_leg 0 es (λ j. None) e e l at zero_plus t) ∙ sym t
      ]

  began_core : IsCore r (began_rows r w call request es)
  began_core =
      record {
        calls_below = λ j high. put_other w.calls w.next_call j (Some (new_row r w call request es)) (λ q. omega (arith, high, q)) ∙ i.calls_below j (omega (arith, high));
        legs_below = λ m high. Numbering.rows_above due w.next_call load w.next_leg 0 es w.legs m high ∙ i.legs_below m (omega (arith, high));
        call = λ j d f. elim (put_cases w.calls w.next_call j (Some (new_row r w call request es)) d f) [
          | inl q ↦ subst (IsCallRow r) (same_some q.1) (record { laid = record { all = laid.all; rising = laid.rising }; runs = runs; linked = began_linked; closed = λ p y g. no_some (sym (nothing p) ∙ g) })
          | inr q ↦ i.call j d q.1
        ];
        own = λ m s j d f g t. elim (Numbering.rows_back due w.next_call load w.next_leg 0 es w.legs m s f) [
          | inl old ↦
              elim (put_cases w.calls w.next_call j (Some (new_row r w call request es)) d t) [
                | inl q ↦ let low = i.owner m s j old g in absurd (below_itself w.next_call (subst (λ v. v < w.next_call) (sym q.0) low))
                | inr q ↦ i.own m s j d old g q.1
              ]
          | inr fresh ↦
              let jk : w.next_call ≡ j = same_some (ap (λ v. v.call) fresh.is ∙ g) in
              let same : new ≡ d = same_some (sym (put_same w.calls w.next_call (Some (new_row r w call request es))) ∙ subst (λ v. calls4 v ≡ Some d) (sym jk) t) in
              let index : fresh.index ≡ fresh.entry = let z = fresh.entry_is in omega (arith, z) in
              subst (λ v. (slice_get v.entries s.entry ≡ Some s.launch) × (v.legs s.entry ≡ Some m)) same
              (subst (λ v. (slice_get es v.entry ≡ Some v.launch) × (new.legs v.entry ≡ Some m)) fresh.is
              (subst (λ v. slice_get es v ≡ Some fresh.launch) index fresh.at, fresh.number (λ j. None)))
        ];
        awaited = λ m s f o. elim (Numbering.rows_back due w.next_call load w.next_leg 0 es w.legs m s f) [
          | inl old ↦
              let a = awaits_call w.calls s (i.awaited m s old o) in
              let low = i.owner m s a.0 old a.2 in
              call_awaits calls4 s (a.0, a.1, a.2, put_other w.calls w.next_call a.0 (Some (new_row r w call request es)) (λ q. omega (arith, low, q)) ∙ a.3, a.4)
          | inr fresh ↦ call_awaits calls4 s (w.next_call, new_row r w call request es, sym (ap (λ v. v.call) fresh.is), put_same w.calls w.next_call (Some (new_row r w call request es)), nothing s.launch.position)
        ];
        counted = λ m s f o. elim (Numbering.rows_back due w.next_call load w.next_leg 0 es w.legs m s f) [
          | inl old ↦ i.counted m s old o
          | inr fresh ↦ absurd (true≢false (subst (λ v. is_unanswered v.state ≡ false) (sym fresh.is) o))
        ];
        owner = λ m s j f g. elim (Numbering.rows_back due w.next_call load w.next_leg 0 es w.legs m s f) [
          | inl old ↦ let low = i.owner m s j old g in omega (arith, low)
          | inr fresh ↦ let jk : w.next_call ≡ j = same_some (ap (λ v. v.call) fresh.is ∙ g) in omega (arith, jk)
        ];
      }
    where
      below_itself : (n : ℕ) → n < n → ⊥
      below_itself n h = omega (arith, h)

pub began_moves : BeganMoves
began_moves r w op route rest choice request es i laid =
    let call = new_call (world_of w) op route rest choice in
    record { is = refl; moves = began_live r w call request es i laid refl refl; core = began_core r w call request es i laid refl refl }
