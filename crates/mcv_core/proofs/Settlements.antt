-- A leg is done with, spooled or refused, and its call records a reply of it.
use Rattle.std.proofs.Common.{◌≡◌, ◌⊎◌, cond, inl, inr, ℕ, ◌+◌, ◌<◌, ◌≤◌, Bool, true, false, nat_eq, is_none, length, List, Option, Some, None, option_map, refl, sym, ap, ◌∙◌, subst, arith, true≢false}
use Rattle.std.specs.Prelude.{filter, is_some, slice_get}
use Rattle.std.proofs.Math.Path.{fun_ext}
use Rattle.std.proofs.lemmas.Bool.{cases_eq, cases_lt}
use Rattle.mcv_base.specs.Reply.{ReplyValue, outcome_of}
use Rattle.mcv_core.specs.CallProgress.{launch_at}
use Rattle.mcv_queues.specs.declared.leg.Leg.{Leg}
use Rattle.mcv_queues.specs.declared.leg.State.{State}
use Rattle.mcv_queues.specs.declared.leg.State.TheVariants as states
use Rattle.mcv_route.specs.declared.launch.Launch.{Launch}
use Rattle.mcv_route.specs.Outcomes.{is_same, outcomes}
use Rattle.mcv_route.specs.Routes.{RoutesValue}
use Rattle.mcv_rules.proofs.Orders.{same_self}
use Rattle.mcv_world.specs.World.{history_of, is_counted_delete, put}
use Rattle.mcv_world.specs.LiveWorld.{has_ended}
use Rattle.mcv_world.specs.Moves.{has_no_outcome, is_one, with_reply}
use Rattle.mcv_world.proofs.Numbers.{same_some, no_some, put_same, put_other, put_cases}
use Rattle.mcv_events.specs.Entries.{is_due}
use Rattle.mcv_events.specs.Rows as rows
use Rattle.mcv_events.specs.Rows.{CallRow, LegRow, Rows, IsCore, CanRecord, awaits, is_unanswered, leg_of, queued_rows, recorded_row, recorded_rows, with_leg_row}
use Rattle.mcv_events.specs.QueuedLegs.{count_in, count_of, queued_legs}
use Rattle.mcv_events.specs.Reservations.{reserved as reserved_by, unlaunched_of}
use Rattle.mcv_events.specs.Sums.{sum_below}
use Rattle.mcv_events.proofs.EventsAreMoves.{core_dropped, states_keep_cores}
use Rattle.mcv_events.proofs.Numbering
use Rattle.mcv_events.proofs.QueuedLegs.{putting_counts, recording_queues}
use Rattle.mcv_events.proofs.Recording.{recording_keeps_core}
use Rattle.mcv_events.proofs.Sums.{sum_put}
use Rattle.mcv_core.specs.declared.call.Call.{Call}
use Rattle.mcv_core.specs.declared.call.Recording.{Recording}
use Rattle.mcv_core.specs.declared.errand.Errand.{Errand}
use Rattle.mcv_core.specs.Errands.{launch_of}
use Rattle.mcv_core.specs.Recordings.{AreAddressed, HasRecorded}
use Rattle.mcv_core.specs.Rows.{all_rows, awaiting_state, call_of, call_row, call_rows, entries_of, row_by, rows_by, rows_of, state_of, IsRunning, load_of}
use Rattle.mcv_core.specs.Soundness.{one, spooled_in, spooled_one, IsSound}
use Rattle.mcv_core.proofs.Launches.{get_below}
use Rattle.mcv_core.proofs.Places.{put_rows}
use Rattle.mcv_core.proofs.StateFollowsOutcomes.{at_launch, there_at}
use Rattle.mcv_core.proofs.SpooledLegs.{spooled_stays}
use Rattle.mcv_core.proofs.States.{rows_put, stays_as}

-- what a leg becomes: nothing, or itself in a state in which it isn't unanswered, where it is a counted delete's
pub record Stays (l : Leg Errand) (o : Option (Leg Errand)) : Type 0 where
  pub state : State
  pub seq : Option ℕ
  pub is : o ≡ Some (stays_as state seq l)
  pub shut : is_unanswered (state_of state) ≡ false
  pub shut_too : is_unanswered (awaiting_state state) ≡ false
  pub counted : is_counted_delete (leg_of (row_by state_of l)) ≡ true

abbrev pub Settles : Leg Errand → Option (Leg Errand) → Type 0
Settles l o = (o ≡ None) ⊎ Stays l o

-- what a state is taken for: the leg's own, or whether its call awaits it
pub record IsView (f : State → rows.State) : Type 0 where
  pub waits : f states.Waiting ≡ rows.Waiting
  pub shuts : (t : State) → is_unanswered (state_of t) ≡ false → is_unanswered (awaiting_state t) ≡ false → is_unanswered (f t) ≡ false

pub as_it_is : IsView state_of
as_it_is = record { waits = refl; shuts = λ t a b. a }

pub as_awaited : IsView awaiting_state
as_awaited = record { waits = refl; shuts = λ t a b. b }

pub cond_some : (b b2 : Bool) (d : Call) (row : CallRow) → b ≡ b2 → call_row d ≡ row → option_map call_row (cond b None (Some d)) ≡ cond b2 None (Some row)
cond_some b b2 d row e f = ap (λ v. option_map call_row (cond v None (Some d))) e ∙ by_cases b2
  where
    by_cases : (v : Bool) → option_map call_row (cond v None (Some d)) ≡ cond v None (Some row)
    by_cases true = refl
    by_cases false = ap (λ v. Some v) f

pub call_put : (calls : ℕ → Option Call) (k : ℕ) (o : Option Call) → call_rows (put calls k o) ≡ put (call_rows calls) k (option_map call_row o)
call_put calls k o = fun_ext (λ m. by_cases (nat_eq k m) m)
  where
    by_cases : (b : Bool) (m : ℕ) → option_map call_row (cond b o (calls m)) ≡ cond b (option_map call_row o) (option_map call_row (calls m))
    by_cases true m = refl
    by_cases false m = refl

none_is : {A : Type 0} (o : Option A) → is_none o ≡ true → o ≡ None
none_is None e = refl
none_is (Some x) e = absurd (true≢false (sym e))

module _ (r : RoutesValue) (calls : ℕ → Option Call) (legs : ℕ → Option (Leg Errand)) (since : Option ℕ) (moment next_call next_leg reserved queued spooled running room servers : ℕ)
    (i : IsSound r calls legs since moment next_call next_leg reserved queued spooled running room servers) (n : ℕ) (l : Leg Errand) (at : legs n ≡ Some l) (k : ℕ) (c : Call) (own : l.content.call ≡ Some k)
    (there : calls k ≡ Some c) (awaited : has_no_outcome (leg_of (row_by state_of l)) (call_of c) ≡ true) (o : Option (Leg Errand)) (settles : Settles l o) (legs1 : ℕ → Option (Leg Errand)) (legs1_is : legs1 ≡ put legs n o) where
  abbrev entry : ℕ
  entry = l.content.entry

  here : (f : State → rows.State) → rows_by f legs n ≡ Some (row_by f l)
  here f = ap (option_map (row_by f)) at

  row_there : call_rows calls k ≡ Some (call_row c)
  row_there = ap (option_map call_row) there

  its : (slice_get (entries_of c) entry ≡ Some (launch_of l.content)) × ((call_row c).legs entry ≡ Some n)
  its = i.core.own n (row_by state_of l) k (call_row c) (here state_of) own row_there

  pub launch_is : launch_at (entries_of c) entry ≡ launch_of l.content
  launch_is = at_launch (entries_of c) entry (launch_of l.content) its.0

  pub unheard : outcomes (history_of (call_of c).recorded) (launch_at (entries_of c) entry).position ≡ None
  unheard = ap (λ v. outcomes (history_of (call_of c).recorded) v.position) launch_is ∙ none_is (outcomes (history_of (call_of c).recorded) (launch_of l.content).position) awaited

  -- the rows before the reply is recorded
  pub w1_is : (f : State → rows.State) → all_rows f calls legs1 since next_call next_leg ≡ with_leg_row (all_rows f calls legs since next_call next_leg) n (option_map (row_by f) o)
  w1_is f = rows_put f calls legs legs1 since next_call next_leg n o legs1_is

  core1 : (f : State → rows.State) → IsView f → IsCore r (all_rows f calls legs since next_call next_leg) → IsCore r (all_rows f calls legs1 since next_call next_leg)
  core1 f view core =
      subst (IsCore r) (sym (w1_is f)) (elim settles [
        | inl gone ↦ subst (λ v. IsCore r (with_leg_row (all_rows f calls legs since next_call next_leg) n (option_map (row_by f) v))) (sym gone) (core_dropped r (all_rows f calls legs since next_call next_leg) n core)
        | inr stays ↦
            subst (λ v. IsCore r (with_leg_row (all_rows f calls legs since next_call next_leg) n (option_map (row_by f) v))) (sym stays.is)
            (states_keep_cores r (all_rows f calls legs since next_call next_leg) n (row_by f l) (f stays.state) core (here f) (λ t. absurd (true≢false (sym t ∙ view.shuts stays.state stays.shut stays.shut_too))) (λ t. stays.counted))
      ])

  shut_here : (f : State → rows.State) → IsView f → (s : LegRow) → option_map (row_by f) o ≡ Some s → is_unanswered s.state ≡ true → ⊥
  shut_here f view s e t =
      elim settles [
        | inl gone ↦ no_some (sym (ap (option_map (row_by f)) gone) ∙ e)
        | inr stays ↦
            let same : row_by f (stays_as stays.state stays.seq l) ≡ s = same_some (sym (ap (option_map (row_by f)) stays.is) ∙ e) in
            true≢false (sym t ∙ ap (λ v. is_unanswered v.state) (sym same) ∙ view.shuts stays.state stays.shut stays.shut_too)
      ]

  legs1_at : (f : State → rows.State) (m : ℕ) → rows_by f legs1 m ≡ put (rows_by f legs) n (option_map (row_by f) o) m
  legs1_at f m = ap (λ g. g m) (ap (rows_by f) legs1_is ∙ put_rows f legs n o)

  can1 : (f : State → rows.State) → IsView f → IsCore r (all_rows f calls legs since next_call next_leg) → CanRecord r (all_rows f calls legs1 since next_call next_leg) k (call_row c) entry (launch_at (entries_of c) entry)
  can1 f view core =
      record {
        there = row_there;
        entry = there_at (entries_of c) entry (get_below (entries_of c) entry (launch_of l.content) its.0);
        launched = ap is_some its.1;
        no_outcome = unheard;
        shut = λ m s g own2 t same. elim (put_cases (rows_by f legs) n m (option_map (row_by f) o) s (sym (legs1_at f m) ∙ g)) [
          | inl q ↦ shut_here f view s q.1 t
          | inr q ↦
              let its2 = core.own m s k (call_row c) q.1 own2 row_there in
              q.0 (same_some (sym its.1 ∙ ap (call_row c).legs (sym same) ∙ its2.1))
        ];
      }

  pub sound_core : IsCore r (rows_of calls legs1 since next_call next_leg)
  sound_core = core1 state_of as_it_is i.core

  pub sound_can : CanRecord r (rows_of calls legs1 since next_call next_leg) k (call_row c) entry (launch_at (entries_of c) entry)
  sound_can = can1 state_of as_it_is i.core

  k_below : k < next_call
  k_below = elim (cases_lt k next_call) [ inl low ↦ low | inr high ↦ no_some (sym (i.core.calls_below k high) ∙ row_there) ]

  n_below : n < next_leg
  n_below = elim (cases_lt n next_leg) [ inl low ↦ low | inr high ↦ no_some (sym (i.core.legs_below n high) ∙ here state_of) ]

  pub free : (m : ℕ) → next_leg ≤ m → legs1 m ≡ None
  free m high = ap (λ g. g m) legs1_is ∙ put_other legs n m o (λ q. let low = n_below in omega (arith, low, high, q)) ∙ none_row (legs m) (i.core.legs_below m high)
    where
      none_row : (v : Option (Leg Errand)) → option_map (row_by state_of) v ≡ None → v ≡ None
      none_row None e = refl
      none_row (Some z) e = no_some (sym e)

  weight : sum_below (unlaunched_of r) (put (call_rows calls) k None) next_call + c.left ≡ reserved
  weight =
      let p = sum_put (unlaunched_of r) (call_rows calls) k None next_call k_below in
      let old : unlaunched_of r (call_rows calls k) ≡ c.left = ap (unlaunched_of r) row_there ∙ sym (i.calls_run k c there).left in
      let a = i.reserved_is in
      omega (arith, p, old, a)

  -- what it may still launch is reserved
  pub left_reserved : c.left ≤ reserved
  left_reserved = let p = weight in omega (arith, p)

  -- ---- the call has recorded the reply

  module _ (x : ReplyValue) (d : Call) (legs2 : ℕ → Option (Leg Errand)) (result : Recording) (h : HasRecorded r (rows_of calls legs1 since next_call next_leg) k c d entry x legs1 legs2 result) (calls2 : ℕ → Option Call)
      (calls2_is : calls2 ≡ put calls k (cond result.ended None (Some d))) where
    abbrev p : List ℕ
    p = (launch_at (entries_of c) entry).position

    abbrev due : Launch → Bool
    due = is_due r (call_of c) (with_reply (call_of c) p x)

    call_is : call_of d ≡ with_reply (call_of c) p x
    call_is = ap (λ v. v.call) h.row

    calls2_rows : call_rows calls2 ≡ put (call_rows calls) k (cond (has_ended r (with_reply (call_of c) p x)) None (Some (call_row d)))
    calls2_rows =
        ap call_rows calls2_is ∙ call_put calls k (cond result.ended None (Some d))
        ∙ ap (put (call_rows calls) k) (cond_some result.ended (has_ended r (with_reply (call_of c) p x)) d (call_row d) (h.ended ∙ ap (has_ended r) call_is) refl)

    pub rows2_is : (f : State → rows.State) → IsView f → all_rows f calls2 legs2 since next_call (next_leg + result.launched) ≡ recorded_rows r (all_rows f calls legs1 since next_call next_leg) k (call_row c) p x
    rows2_is f view = λ j. record {
      calls = (calls2_rows ∙ ap (λ v. put (call_rows calls) k (cond (has_ended r (with_reply (call_of c) p x)) None (Some v))) h.row) j;
      legs = h.rows f view.waits j;
      since = since;
      next_call = next_call;
      next_leg = ap (λ v. next_leg + v) h.launched j;
    }

    pub core2 : (f : State → rows.State) → IsView f → IsCore r (all_rows f calls legs since next_call next_leg) → IsCore r (all_rows f calls2 legs2 since next_call (next_leg + result.launched))
    core2 f view core = subst (IsCore r) (sym (rows2_is f view)) (recording_keeps_core r (all_rows f calls legs1 since next_call next_leg) k (call_row c) entry (launch_at (entries_of c) entry) x (core1 f view core) (can1 f view core))

    -- a leg that its call doesn't await isn't awaited after that
    some_stays : (q : List ℕ) → is_none (outcomes (history_of (call_of c).recorded) q) ≡ false → is_none (outcomes (history_of (with_reply (call_of c) p x).recorded) q) ≡ false
    some_stays q e = by_cases (is_same p q)
      where
        by_cases : (b : Bool) → is_none (cond b (Some (outcome_of x)) (outcomes (history_of (call_of c).recorded) q)) ≡ false
        by_cases true = refl
        by_cases false = e

    at_call : (s : LegRow) → (is_none (outcomes (history_of (with_reply (call_of c) p x).recorded) s.launch.position) ≡ false) → is_one (call_rows calls2 k) (λ z. has_no_outcome (leg_of s) z.call) ≡ false
    at_call s e = ap (λ v. is_one v (λ z. has_no_outcome (leg_of s) z.call)) (ap (λ g. g k) calls2_rows ∙ put_same (call_rows calls) k _) ∙ by_cases (has_ended r (with_reply (call_of c) p x))
      where
        by_cases : (b : Bool) → is_one (cond b None (Some (call_row d))) (λ z. has_no_outcome (leg_of s) z.call) ≡ false
        by_cases true = refl
        by_cases false = ap (λ v. has_no_outcome (leg_of s) v) call_is ∙ e

    less_awaited : (s : LegRow) (j : Option ℕ) → awaits (call_rows calls) s j ≡ false → awaits (call_rows calls2) s j ≡ false
    less_awaited s None e = refl
    less_awaited s (Some j) e =
        elim (cases_eq k j) [
          | inl q ↦
              let was : is_none (outcomes (history_of (call_of c).recorded) s.launch.position) ≡ false = sym (ap (λ v. is_one v (λ z. has_no_outcome (leg_of s) z.call)) (ap (call_rows calls) (sym q) ∙ row_there)) ∙ e in
              ap (λ v. is_one (call_rows calls2 v) (λ z. has_no_outcome (leg_of s) z.call)) (sym q) ∙ at_call s (some_stays s.launch.position was)
          | inr ne ↦ ap (λ v. is_one v (λ z. has_no_outcome (leg_of s) z.call)) (ap (λ g. g j) calls2_rows ∙ put_other (call_rows calls) k j _ ne) ∙ e
        ]

    own_recorded : is_none (outcomes (history_of (with_reply (call_of c) p x).recorded) (launch_of l.content).position) ≡ false
    own_recorded = ap (λ b. is_none (cond b (Some (outcome_of x)) (outcomes (history_of (call_of c).recorded) (launch_of l.content).position))) (ap (λ v. is_same v.position (launch_of l.content).position) launch_is ∙ same_self (launch_of l.content).position)

    refused2 : (m : ℕ) (s : LegRow) → rows_by awaiting_state legs2 m ≡ Some s → s.state ≡ rows.Held → awaits (call_rows calls2) s s.call ≡ false
    refused2 m s f held =
        elim (Numbering.rows_back due k (load_of c) next_leg 0 (entries_of c) (rows_by awaiting_state legs1) m s (sym (ap (λ g. g m) (h.rows awaiting_state refl)) ∙ f)) [
          | inl old ↦
              elim (put_cases (rows_by awaiting_state legs) n m (option_map (row_by awaiting_state) o) s (sym (legs1_at awaiting_state m) ∙ old)) [
                | inl q ↦
                    elim settles [
                      | inl gone ↦ no_some (sym (ap (option_map (row_by awaiting_state)) gone) ∙ q.1)
                      | inr stays ↦
                          let same : row_by awaiting_state (stays_as stays.state stays.seq l) ≡ s = same_some (sym (ap (option_map (row_by awaiting_state)) stays.is) ∙ q.1) in
                          subst (λ (v : LegRow). awaits (call_rows calls2) v v.call ≡ false) same
                          (ap (awaits (call_rows calls2) (row_by awaiting_state (stays_as stays.state stays.seq l))) own ∙ at_call (row_by awaiting_state (stays_as stays.state stays.seq l)) own_recorded)
                    ]
                | inr q ↦ less_awaited s s.call (i.refused m s q.1 held)
              ]
          | inr new ↦ absurd (true≢false (ap (λ v. is_unanswered v.state) new.is ∙ ap is_unanswered held))
        ]

    running2 : (j : ℕ) (z : Call) → calls2 j ≡ Some z → IsRunning r j z
    running2 j z f =
        elim (put_cases calls k j (cond result.ended None (Some d)) z (sym (ap (λ g. g j) calls2_is) ∙ f)) [
          | inl q ↦ subst (λ v. IsRunning r v z) q.0 (subst (IsRunning r k) (some_of result.ended q.1) h.running)
          | inr q ↦ i.calls_run j z q.1
        ]
      where
        some_of : (b : Bool) → cond b None (Some d) ≡ Some z → d ≡ z
        some_of true e = no_some e
        some_of false e = same_some e

    addressed1 : AreAddressed legs1
    addressed1 m z f =
        elim (put_cases legs n m o z (sym (ap (λ g. g m) legs1_is) ∙ f)) [
          | inl q ↦
              elim settles [
                | inl gone ↦ no_some (sym gone ∙ q.1)
                | inr stays ↦ let same : stays_as stays.state stays.seq l ≡ z = same_some (sym stays.is ∙ q.1) in subst (λ (v : Leg Errand). v.server ≡ (launch_of v.content).server) same (i.addressed n l at)
              ]
          | inr q ↦ i.addressed m z q.1
        ]

    cond_weight : (weigh : Option CallRow → ℕ) (b : Bool) (z : CallRow) → weigh (cond b None (Some z)) ≡ cond b (weigh None) (weigh (Some z))
    cond_weight weigh true z = refl
    cond_weight weigh false z = refl

    reserved2_is : reserved_by r (rows_of calls2 legs2 since next_call (next_leg + result.launched)) + (result.launched + cond result.ended result.left 0) ≡ reserved
    reserved2_is =
        let rows2 : call_rows calls2 ≡ put (call_rows calls) k (option_map call_row (cond result.ended None (Some d))) = ap call_rows calls2_is ∙ call_put calls k (cond result.ended None (Some d)) in
        let p = sum_put (unlaunched_of r) (call_rows calls) k (option_map call_row (cond result.ended None (Some d))) next_call k_below in
        let old : unlaunched_of r (call_rows calls k) ≡ c.left = ap (unlaunched_of r) row_there ∙ sym (i.calls_run k c there).left in
        let new : unlaunched_of r (option_map call_row (cond result.ended None (Some d))) + cond result.ended result.left 0 ≡ result.left = by_cases result.ended in
        let sums : sum_below (unlaunched_of r) (call_rows calls2) next_call ≡ sum_below (unlaunched_of r) (put (call_rows calls) k (option_map call_row (cond result.ended None (Some d)))) next_call = ap (λ g. sum_below (unlaunched_of r) g next_call) rows2 in
        let a = i.reserved_is in
        let spent = h.spent in
        omega (arith, p, old, new, sums, a, spent)
      where
        left : result.left ≡ unlaunched_of r (Some (call_row d))
        left = h.left

        by_cases : (b : Bool) → unlaunched_of r (option_map call_row (cond b None (Some d))) + cond b result.left 0 ≡ result.left
        by_cases true = omega arith
        by_cases false = let e = left in omega (arith, e)

    pub running2_is : sum_below one (call_rows calls2) next_call + cond result.ended 1 0 ≡ running
    running2_is =
        let rows2 : call_rows calls2 ≡ put (call_rows calls) k (option_map call_row (cond result.ended None (Some d))) = ap call_rows calls2_is ∙ call_put calls k (cond result.ended None (Some d)) in
        let p = sum_put one (call_rows calls) k (option_map call_row (cond result.ended None (Some d))) next_call k_below in
        let old : one (call_rows calls k) ≡ 1 = ap one row_there in
        let new : one (option_map call_row (cond result.ended None (Some d))) + cond result.ended 1 0 ≡ 1 = by_cases result.ended in
        let sums : sum_below one (call_rows calls2) next_call ≡ sum_below one (put (call_rows calls) k (option_map call_row (cond result.ended None (Some d)))) next_call = ap (λ g. sum_below one g next_call) rows2 in
        let a = i.running_is in
        omega (arith, p, old, new, sums, a)
      where
        by_cases : (b : Bool) → one (option_map call_row (cond b None (Some d))) + cond b 1 0 ≡ 1
        by_cases true = refl
        by_cases false = refl

    queued2_is : queued_legs (rows_of calls2 legs2 since next_call (next_leg + result.launched)) + count_in (state_of l.state) ≡ queued + count_of (option_map (row_by state_of) o) + result.launched
    queued2_is =
        let w = rows_of calls legs since next_call next_leg in
        let put_one = putting_counts w n (option_map (row_by state_of) o) n_below in
        let old : count_of (w.legs n) ≡ count_in (state_of l.state) = ap count_of (here state_of) in
        let one_put : queued_legs (rows_of calls legs1 since next_call next_leg) ≡ queued_legs (with_leg_row w n (option_map (row_by state_of) o)) = ap queued_legs (w1_is state_of) in
        let more = recording_queues r (rows_of calls legs1 since next_call next_leg) k (call_row c) p x in
        let same : queued_legs (rows_of calls2 legs2 since next_call (next_leg + result.launched)) ≡ queued_legs (recorded_rows r (rows_of calls legs1 since next_call next_leg) k (call_row c) p x) = ap queued_legs (rows2_is state_of as_it_is) in
        let a = i.queued_is in
        let launched = h.launched in
        omega (arith, put_one, old, one_put, more, same, a, launched)

    spooled2_is : sum_below spooled_one (rows_by state_of legs2) (next_leg + result.launched) + spooled_in (state_of l.state) ≡ spooled + spooled_one (option_map (row_by state_of) o)
    spooled2_is =
        let put_one = sum_put spooled_one (rows_by state_of legs) n (option_map (row_by state_of) o) next_leg n_below in
        let old : spooled_one (rows_by state_of legs n) ≡ spooled_in (state_of l.state) = ap spooled_one (here state_of) in
        let first : sum_below spooled_one (rows_by state_of legs1) next_leg ≡ sum_below spooled_one (put (rows_by state_of legs) n (option_map (row_by state_of) o)) next_leg =
        ap (λ g. sum_below spooled_one g next_leg) (ap (rows_by state_of) legs1_is ∙ put_rows state_of legs n o) in
        let more = spooled_stays due k (load_of c) next_leg 0 (entries_of c) (rows_by state_of legs1) in
        let same : sum_below spooled_one (rows_by state_of legs2) (next_leg + result.launched) ≡ sum_below spooled_one (queued_rows due k (load_of c) next_leg 0 (entries_of c) (rows_by state_of legs1)) (next_leg + length (filter due (entries_of c))) =
        ap (λ g. sum_below spooled_one g (next_leg + result.launched)) (h.rows state_of refl)
        ∙ ap (λ v. sum_below spooled_one (queued_rows due k (load_of c) next_leg 0 (entries_of c) (rows_by state_of legs1)) (next_leg + v)) h.launched in
        let a = i.spooled_is in
        omega (arith, put_one, old, first, more, same, a)

    pub settled : count_in (state_of l.state) ≡ 1 → count_of (option_map (row_by state_of) o) ≤ 1 → spooled_in (state_of l.state) ≡ 0
        → (queued2 spooled2 running2 reserved2 room1 room2 servers2 : ℕ) → queued2 + 1 ≡ queued + count_of (option_map (row_by state_of) o) + result.launched → spooled2 ≡ spooled + spooled_one (option_map (row_by state_of) o)
        → running2 + cond result.ended 1 0 ≡ running
        → reserved2 + (result.launched + cond result.ended result.left 0) ≡ reserved → room ≤ room1 → room1 ≤ room2 + result.launched → servers2 ≡ servers
        → IsSound r calls2 legs2 since moment next_call (next_leg + result.launched) reserved2 queued2 spooled2 running2 room2 servers2
    settled counted at_most unspooled queued2 spooled2 running2n reserved2 room1 room2 servers2 queued_eq spooled_eq running_eq reserved_eq wide wide2 known =
        record {
          core = core2 state_of as_it_is i.core;
          awaiting = core2 awaiting_state as_awaited i.awaiting;
          refused = refused2;
          calls_run = running2;
          addressed = h.addressed addressed1;
          reserved_is = let a = reserved2_is in omega (arith, a, reserved_eq);
          queued_is = let a = queued2_is in omega (arith, a, queued_eq, counted);
          spooled_is = let a = spooled2_is in omega (arith, a, spooled_eq, unspooled);
          running_is = let a = running2_is in omega (arith, a, running_eq);
          room_is = let a = i.room_is in omega (arith, a, reserved_eq, wide, wide2);
          limit = let a = i.limit in omega (arith, a, reserved_eq, queued_eq, at_most);
          numbers = let a = i.numbers in omega (arith, a, reserved_eq);
          known = let a = i.known in omega (arith, a, known);
          era = i.era;
        }
