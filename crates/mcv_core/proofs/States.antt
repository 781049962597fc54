-- A leg's state changes, and its call records nothing.
use Rattle.std.proofs.Common.{◌≡◌, inl, inr, ℕ, zero, suc, ◌+◌, ◌<◌, ◌≤◌, true, false, Option, Some, None, option_map, sym, ap, ◌∙◌, subst, arith}
use Rattle.std.proofs.lemmas.Bool.{cases_lt}
use Rattle.mcv_queues.specs.declared.leg.Leg.{Leg}
use Rattle.mcv_queues.specs.declared.leg.State.{State}
use Rattle.mcv_queues.specs.Legs.{in_state as put_state, stored_as, with_state, with_stored}
use Rattle.mcv_route.specs.Routes.{RoutesValue}
use Rattle.mcv_world.specs.World.{is_counted_delete, put}
use Rattle.mcv_world.proofs.Numbers.{same_some, no_some, put_cases}
use Rattle.mcv_events.specs.Rows as rows
use Rattle.mcv_events.specs.Rows.{LegRow, Rows, IsCore, awaits, is_unanswered, leg_of, with_leg_row}
use Rattle.mcv_events.specs.Events.{in_state}
use Rattle.mcv_events.specs.QueuedLegs.{count_in, count_of, queued_legs}
use Rattle.mcv_events.proofs.EventsAreMoves.{core_dropped, states_keep_cores}
use Rattle.mcv_events.specs.Sums.{sum_below}
use Rattle.mcv_events.proofs.QueuedLegs.{putting_counts}
use Rattle.mcv_events.proofs.Sums.{sum_put}
use Rattle.mcv_core.specs.declared.call.Call.{Call}
use Rattle.mcv_core.specs.declared.errand.Errand.{Errand}
use Rattle.mcv_core.specs.Errands.{launch_of}
use Rattle.mcv_core.specs.Rows.{all_rows, awaiting_state, call_rows, row_by, rows_by, rows_of, state_of}
use Rattle.mcv_core.specs.Soundness.{spooled_in, spooled_one, IsSound}
use Rattle.mcv_core.proofs.Places.{put_rows}

-- ---- rows

-- the rows of legs of which one is put at a number
pub rows_put : (f : State → rows.State) (calls : ℕ → Option Call) (legs legs2 : ℕ → Option (Leg Errand)) (since : Option ℕ) (next_call next_leg n : ℕ) (o : Option (Leg Errand)) → legs2 ≡ put legs n o
    → all_rows f calls legs2 since next_call next_leg ≡ with_leg_row (all_rows f calls legs since next_call next_leg) n (option_map (row_by f) o)
rows_put f calls legs legs2 since next_call next_leg n o is =
    let same : rows_by f legs2 ≡ put (rows_by f legs) n (option_map (row_by f) o) = ap (rows_by f) is ∙ put_rows f legs n o in
    ap (λ g. record { calls = call_rows calls; legs = g; since = since; next_call = next_call; next_leg = next_leg }) same

pub state_put : (legs : ℕ → Option (Leg Errand)) (n : ℕ) (l : Leg Errand) (t : State) → legs n ≡ Some l → with_state legs n t ≡ put legs n (Some (put_state t l))
state_put legs n l t at = ap (λ o. put legs n (option_map (put_state t) o)) at

-- the leg in this state, with this number of its record
abbrev pub stays_as : State → Option ℕ → Leg Errand → Leg Errand
stays_as t seq l = record { server = l.server; state = t; «record» = seq; content = l.content }

leg_below : (r : RoutesValue) (w : Rows) → IsCore r w → (n : ℕ) (s : LegRow) → w.legs n ≡ Some s → n < w.next_leg
leg_below r w i n s at = elim (cases_lt n w.next_leg) [ inl low ↦ low | inr high ↦ no_some (sym (i.legs_below n high) ∙ at) ]

-- ---- what a leg may change to

-- of what its state is taken for: it is unanswered only if it was, and else it is a counted delete's
pub record CanChange (f : State → rows.State) (l : Leg Errand) (t : State) : Type 0 where
  pub opens : is_unanswered (f t) ≡ true → is_unanswered (f l.state) ≡ true
  pub shuts : is_unanswered (f t) ≡ false → is_counted_delete (leg_of (row_by f l)) ≡ true

module _ (r : RoutesValue) (calls : ℕ → Option Call) (legs : ℕ → Option (Leg Errand)) (since : Option ℕ) (moment next_call next_leg reserved queued spooled running room servers : ℕ)
    (i : IsSound r calls legs since moment next_call next_leg reserved queued spooled running room servers) (n : ℕ) (l : Leg Errand) (at : legs n ≡ Some l) (t : State) (seq : Option ℕ) where
  pub core_changed : (f : State → rows.State) → IsCore r (all_rows f calls legs since next_call next_leg) → CanChange f l t → (legs2 : ℕ → Option (Leg Errand)) → legs2 ≡ put legs n (Some (stays_as t seq l))
      → IsCore r (all_rows f calls legs2 since next_call next_leg)
  core_changed f core can legs2 is =
      subst (IsCore r) (sym (rows_put f calls legs legs2 since next_call next_leg n (Some (stays_as t seq l)) is))
      (states_keep_cores r (all_rows f calls legs since next_call next_leg) n (row_by f l) (f t) core (ap (option_map (row_by f)) at) can.opens can.shuts)

  pub changed : CanChange state_of l t → CanChange awaiting_state l t → (awaiting_state t ≡ rows.Held → awaits (call_rows calls) (row_by awaiting_state l) l.content.call ≡ false)
      → (legs2 : ℕ → Option (Leg Errand)) → legs2 ≡ put legs n (Some (stays_as t seq l)) → (queued2 spooled2 room2 servers2 : ℕ) → queued2 + count_in (state_of l.state) ≡ queued + count_in (state_of t) → queued2 + reserved ≤ 65536
      → spooled2 + spooled_in (state_of l.state) ≡ spooled + spooled_in (state_of t) → room ≤ room2 → servers2 ≡ servers
      → IsSound r calls legs2 since moment next_call next_leg reserved queued2 spooled2 running room2 servers2
  changed can can_await refuses legs2 is queued2 spooled2 room2 servers2 count small stored wide known =
      let w = rows_of calls legs since next_call next_leg in
      let here : w.legs n ≡ Some (row_by state_of l) = ap (option_map (row_by state_of)) at in
      record {
        core = core_changed state_of i.core can legs2 is;
        awaiting = core_changed awaiting_state i.awaiting can_await legs2 is;
        refused = λ m s f held. elim (put_cases (rows_by awaiting_state legs) n m (Some (row_by awaiting_state (stays_as t seq l))) s (sym (ap (λ g. g m) (ap (rows_by awaiting_state) is ∙ put_rows awaiting_state legs n (Some (stays_as t seq l)))) ∙ f)) [
          | inl q ↦
              let same : row_by awaiting_state (stays_as t seq l) ≡ s = same_some q.1 in
              subst (λ (v : LegRow). awaits (call_rows calls) v v.call ≡ false) same (refuses (ap (λ v. v.state) same ∙ held))
          | inr q ↦ i.refused m s q.1 held
        ];
        calls_run = i.calls_run;
        addressed = λ m z f. elim (put_cases legs n m (Some (stays_as t seq l)) z (sym (ap (λ g. g m) is) ∙ f)) [
          | inl q ↦ let same : stays_as t seq l ≡ z = same_some q.1 in subst (λ (v : Leg Errand). v.server ≡ (launch_of v.content).server) same (i.addressed n l at)
          | inr q ↦ i.addressed m z q.1
        ];
        reserved_is = i.reserved_is;
        queued_is =
            let low = leg_below r w i.core n (row_by state_of l) here in
            let p = putting_counts w n (Some (row_by state_of (stays_as t seq l))) low in
            let old : count_of (w.legs n) ≡ count_in (state_of l.state) = ap count_of here in
            let same : queued_legs (rows_of calls legs2 since next_call next_leg) ≡ queued_legs (with_leg_row w n (Some (row_by state_of (stays_as t seq l)))) =
            ap queued_legs (rows_put state_of calls legs legs2 since next_call next_leg n (Some (stays_as t seq l)) is) in
            let q = i.queued_is in
            omega (arith, p, old, same, q, count);
        spooled_is =
            let low = leg_below r w i.core n (row_by state_of l) here in
            let p = sum_put spooled_one (rows_by state_of legs) n (Some (row_by state_of (stays_as t seq l))) next_leg low in
            let old : spooled_one (rows_by state_of legs n) ≡ spooled_in (state_of l.state) = ap spooled_one here in
            let same : sum_below spooled_one (rows_by state_of legs2) next_leg ≡ sum_below spooled_one (put (rows_by state_of legs) n (Some (row_by state_of (stays_as t seq l)))) next_leg =
            ap (λ g. sum_below spooled_one g next_leg) (ap (rows_by state_of) is ∙ put_rows state_of legs n (Some (stays_as t seq l))) in
            let q = i.spooled_is in
            omega (arith, p, old, same, q, stored);
        running_is = i.running_is;
        room_is = let a = i.room_is in omega (arith, a, wide);
        limit = small;
        numbers = i.numbers;
        known = let a = i.known in omega (arith, a, known);
        era = i.era;
      }

-- ---- a leg in replay goes

at_most_one : (o : Option LegRow) → spooled_one o ≤ 1
at_most_one None = omega arith
at_most_one (Some s) = by_state s.state
  where
    by_state : (t : rows.State) → spooled_in t ≤ 1
    by_state rows.Waiting = omega arith
    by_state rows.Sent = omega arith
    by_state rows.Held = omega arith
    by_state rows.InSpool = omega arith
    by_state rows.InReplay = omega arith

module _ (r : RoutesValue) (calls : ℕ → Option Call) (legs : ℕ → Option (Leg Errand)) (since : Option ℕ) (moment next_call next_leg reserved queued spooled running room servers : ℕ)
    (i : IsSound r calls legs since moment next_call next_leg reserved queued spooled running room servers) (n : ℕ) (l : Leg Errand) (at : legs n ≡ Some l) where
  here : (f : State → rows.State) → rows_by f legs n ≡ Some (row_by f l)
  here f = ap (option_map (row_by f)) at

  below : n < next_leg
  below = leg_below r (rows_of calls legs since next_call next_leg) i.core n (row_by state_of l) (here state_of)

  core_gone : (f : State → rows.State) → IsCore r (all_rows f calls legs since next_call next_leg) → (legs2 : ℕ → Option (Leg Errand)) → legs2 ≡ put legs n None → IsCore r (all_rows f calls legs2 since next_call next_leg)
  core_gone f core legs2 is = subst (IsCore r) (sym (rows_put f calls legs legs2 since next_call next_leg n None is)) (core_dropped r (all_rows f calls legs since next_call next_leg) n core)

  spooled_put : sum_below spooled_one (put (rows_by state_of legs) n None) next_leg + spooled_in (state_of l.state) ≡ spooled
  spooled_put =
      let p = sum_put spooled_one (rows_by state_of legs) n None next_leg below in
      let old : spooled_one (rows_by state_of legs n) ≡ spooled_in (state_of l.state) = ap spooled_one (here state_of) in
      let q = i.spooled_is in
      omega (arith, p, old, q)

  queued_put : queued_legs (with_leg_row (rows_of calls legs since next_call next_leg) n None) + count_in (state_of l.state) ≡ queued
  queued_put =
      let p = putting_counts (rows_of calls legs since next_call next_leg) n None below in
      let old : count_of (rows_by state_of legs n) ≡ count_in (state_of l.state) = ap count_of (here state_of) in
      let q = i.queued_is in
      omega (arith, p, old, q)

  pub one_spooled : state_of l.state ≡ rows.InReplay → 1 ≤ spooled
  one_spooled e = let p = spooled_put in let one : spooled_in (state_of l.state) ≡ 1 = ap spooled_in e in omega (arith, p, one)

  pub one_queued : count_in (state_of l.state) ≡ 1 → 1 ≤ queued
  one_queued e = let p = queued_put in omega (arith, p, e)

  more_at_most : (f : ℕ → Option LegRow) (m : ℕ) → sum_below spooled_one f m ≤ m
  more_at_most f zero = omega arith
  more_at_most f (suc m) = let q = more_at_most f m in let one = at_most_one (f m) in omega (arith, q, one)

  -- one more can be in the spool
  pub more_spooled : spooled_in (state_of l.state) ≡ 0 → spooled + 1 ≤ next_leg
  more_spooled none =
      let in_spool : LegRow = in_state (row_by state_of l) rows.InSpool in
      let p = sum_put spooled_one (rows_by state_of legs) n (Some in_spool) next_leg below in
      let old : spooled_one (rows_by state_of legs n) ≡ spooled_in (state_of l.state) = ap spooled_one (here state_of) in
      let most = more_at_most (put (rows_by state_of legs) n (Some in_spool)) next_leg in
      let q = i.spooled_is in
      omega (arith, p, old, none, most, q)

  pub gone : state_of l.state ≡ rows.InReplay → (legs2 : ℕ → Option (Leg Errand)) → legs2 ≡ put legs n None → (spooled2 : ℕ) → spooled2 + 1 ≡ spooled → (room2 servers2 : ℕ) → room ≤ room2 → servers2 ≡ servers
      → IsSound r calls legs2 since moment next_call next_leg reserved queued spooled2 running room2 servers2
  gone spooled_now legs2 is spooled2 less room2 servers2 wide known =
      let old : (m : ℕ) (z : Leg Errand) → legs2 m ≡ Some z → legs m ≡ Some z = λ m z f. elim (put_cases legs n m None z (sym (ap (λ g. g m) is) ∙ f)) [ inl q ↦ no_some q.1 | inr q ↦ q.1 ] in
      let rows_is : (f : State → rows.State) → rows_by f legs2 ≡ put (rows_by f legs) n None = λ f. ap (rows_by f) is ∙ put_rows f legs n None in
      record {
        core = core_gone state_of i.core legs2 is;
        awaiting = core_gone awaiting_state i.awaiting legs2 is;
        refused = λ m s f held. elim (put_cases (rows_by awaiting_state legs) n m None s (sym (ap (λ g. g m) (rows_is awaiting_state)) ∙ f)) [ inl q ↦ no_some q.1 | inr q ↦ i.refused m s q.1 held ];
        calls_run = i.calls_run;
        addressed = λ m z f. i.addressed m z (old m z f);
        reserved_is = i.reserved_is;
        queued_is =
            let p = queued_put in
            let none : count_in (state_of l.state) ≡ 0 = ap count_in spooled_now in
            let same : queued_legs (rows_of calls legs2 since next_call next_leg) ≡ queued_legs (with_leg_row (rows_of calls legs since next_call next_leg) n None) =
            ap queued_legs (rows_put state_of calls legs legs2 since next_call next_leg n None is) in
            omega (arith, p, none, same);
        spooled_is =
            let p = spooled_put in
            let one : spooled_in (state_of l.state) ≡ 1 = ap spooled_in spooled_now in
            let same : sum_below spooled_one (rows_by state_of legs2) next_leg ≡ sum_below spooled_one (put (rows_by state_of legs) n None) next_leg = ap (λ g. sum_below spooled_one g next_leg) (rows_is state_of) in
            omega (arith, p, one, same, less);
        running_is = i.running_is;
        room_is = let a = i.room_is in omega (arith, a, wide);
        limit = i.limit;
        numbers = i.numbers;
        known = let a = i.known in omega (arith, a, known);
        era = i.era;
      }

pub stored_put : (legs : ℕ → Option (Leg Errand)) (n seq : ℕ) (l : Leg Errand) → legs n ≡ Some l → with_stored legs n seq ≡ put legs n (Some (stored_as seq l))
stored_put legs n seq l at = ap (λ o. put legs n (option_map (stored_as seq) o)) at
