-- A call begins.
use Rattle.std.proofs.Common.{◌≡◌, ◌⊎◌, not, cond, inl, inr, ℕ, zero, suc, ◌+◌, ◌*◌, ◌-◌, ◌<◌, ◌≤◌, Bool, true, false, List, [], ◌∷◌, length, Vec, Option, Some, None, option_map, refl, sym, ap, ◌∙◌, subst, arith, true≢false}
use Rattle.std.specs.Arc.{arc_value}
use Rattle.std.specs.declared.alloc.Global.{Global}
use Rattle.std.specs.Prelude.{filter, is_some, option_and_then, slice_get}
use Rattle.std.proofs.Math.Path.{fun_ext}
use Rattle.std.specs.Prelude.{slice_index, unwrap_or}
use Rattle.mcv_base.specs.Key.{IsRest}
use Rattle.mcv_base.specs.declared.request.Moment.{Moment}
use Rattle.mcv_plan.specs.declared.state.EvalState.{EvalState}
use Rattle.mcv_core.specs.declared.begin.Asked.{Asked}
use Rattle.mcv_core.specs.declared.fault.CoreFault.{CoreFault}
use Rattle.mcv_core.specs.declared.fault.CoreFault.TheVariants.{LegsFull, ChapterFull}
use Rattle.mcv_base.specs.declared.request.Request.{Request}
use Rattle.mcv_route.specs.Tree.{Tree}
use Rattle.std.proofs.lemmas.Option.{get_or_from_slice_get, slice_get_within}
use Rattle.mcv_base.specs.declared.operation.Op.{Op}
use Rattle.mcv_blocks.proofs.PoolSizes.{entry_sized, pool_sound}
use Rattle.mcv_symbolic.specs.CoveredRoutes.{sizes_of}
use Rattle.mcv_rules.proofs.Leaves.{legs_are_of_pools}
use Rattle.mcv_route.specs.Launched.{launched}
use Rattle.mcv_route.specs.Situation.{asked}
use Rattle.mcv_route.specs.Tree.{error}
use Rattle.mcv_queues.specs.declared.leg.Leg.{Leg}
use Rattle.mcv_queues.specs.declared.leg.State.{State}
use Rattle.mcv_queues.specs.declared.leg.State.TheVariants.{Waiting}
use Rattle.mcv_queues.specs.declared.queues.Queues.{Queues}
use Rattle.mcv_queues.specs.Queues.{legs, room, servers}
use Rattle.mcv_route.specs.declared.launch.Launch.{Launch}
use Rattle.mcv_route.specs.Outcomes.{Choice, IsChoice, outcomes}
use Rattle.mcv_route.specs.Routes.{IsSoundRoutes, IsSoundTree, RouteEntry, RoutesValue}
use Rattle.mcv_route.specs.Verdict.{Has}
use Rattle.mcv_world.specs.World as world
use Rattle.mcv_world.specs.World.{put, tree_of, situation_of, choice_of, history_of}
use Rattle.mcv_world.specs.Moves.{Began, has_no_outcome, is_one, new_call}
use Rattle.mcv_world.proofs.Numbers.{no_some, put_cases, put_other, put_same, same_some}
use Rattle.mcv_events.specs.Entries.{IsLaidOut, has_leg_at, is_launched, launches_under}
use Rattle.mcv_events.specs.Rows as rows
use Rattle.mcv_events.specs.Rows.{CallRow, IsCore, LegRow, Rows, awaits, is_unanswered, leg_of, numbered, queued_rows, world_of}
use Rattle.mcv_events.specs.Events.{Moves, began_rows, new_row}
use Rattle.mcv_events.specs.QueuedLegs.{queued_legs}
use Rattle.mcv_events.specs.Reservations.{reserved as reserved_by}
use Rattle.mcv_events.specs.Sums.{sum_below}
use Rattle.mcv_events.proofs.EventsAreMoves.{began_moves}
use Rattle.mcv_events.proofs.Numbering
use Rattle.mcv_events.proofs.QueuedLegs.{beginning_queues}
use Rattle.mcv_events.proofs.Reservations.{beginning_reserves}
use Rattle.mcv_events.proofs.Sums.{sum_above}
use Rattle.mcv_core.specs.declared.call.Call.{Call}
use Rattle.mcv_core.specs.declared.calls.Calls.{Calls}
use Rattle.mcv_core.specs.declared.counts.Counts.{Counts}
use Rattle.mcv_core.specs.declared.dispatcher.Dispatcher.{Dispatcher}
use Rattle.mcv_core.specs.declared.errand.Errand.{Errand}
use Rattle.mcv_core.specs.declared.launch.Entry.{Entry}
use Rattle.mcv_core.specs.Beginning.{CanAdd, CanStart, HasBegun, HasLegRoom, HasRoom, HistoryFits, IsErrandOf, IsNewCall, IsUnstarted, LegsFit, asked_call, began_by, has_begun, reservation}
use Rattle.mcv_core.specs.PlannedLegs.{legs_of_call, planned_legs}
use Rattle.mcv_core.specs.Calls.{calls_at, room as call_room}
use Rattle.mcv_core.specs.CoreView.{CoreView, Moved}
use Rattle.mcv_core.specs.Errands.{errand_view, launch_of, laid_request}
use Rattle.mcv_core.specs.Launching.{errand_at, numbers_of, places_of, with_legs, with_numbers, CanLaunch, IsLaunched}
use Rattle.mcv_core.specs.Rows.{all_rows, awaiting_state, call_of, call_row, call_rows, entries_of, errand_for, has_outcome, past_of, recorded_all, row_by, rows_by, rows_of, state_of, IsRunning, load_of}
use Rattle.mcv_core.specs.Soundness.{one, spooled_one, IsSound}
use Rattle.mcv_core.specs.CallProgress.{GoesToServers, HasOpened, IsTracked, fresh, is_sent, launch_at, places_from}
use Rattle.mcv_core.specs.View.{core_view, since_of}
use Rattle.mcv_core.proofs.Launches.{get_below, launched_addressed}
use Rattle.mcv_core.proofs.EntryCounts.{count, count_at_most, count_both}
use Rattle.mcv_core.proofs.Places.{AreReady, due_at, due_numbers, due_rows, places_apart, places_count}
use Rattle.mcv_core.proofs.Recordings.{entry_at, filter_has, ready_of}
use Rattle.mcv_core.proofs.Settlements.{call_put}
use Rattle.mcv_core.proofs.SpooledLegs.{spooled_stays}
use Rattle.mcv_core.proofs.StateFollowsOutcomes.{at_launch}

none_row : (o : Option (Leg Errand)) → option_map (row_by state_of) o ≡ None → o ≡ None
none_row None e = refl
none_row (Some l) e = no_some (sym e)

one_at_most : (o : Option CallRow) → one o ≤ 1
one_at_most None = omega arith
one_at_most (Some c) = omega arith

at_most_each : (f : ℕ → Option CallRow) (m : ℕ) → sum_below one f m ≤ m
at_most_each f zero = omega arith
at_most_each f (suc m) = let here = one_at_most (f m) in let others = at_most_each f m in omega (arith, here, others)

count_none : (f : Launch → Bool) (es : List Launch) → ((l : Launch) → f l ≡ false) → count f es ≡ 0
count_none f [] h = refl
count_none f (l ∷ es) h = by_case (f l) (h l) (count_none f es h)
  where
    by_case : (b : Bool) → b ≡ false → count f es ≡ 0 → length (cond b (l ∷ filter f es) (filter f es)) ≡ 0
    by_case true e n = absurd (true≢false e)
    by_case false e n = n

module _ (d : Dispatcher) (c : Call) (can : CanAdd d c) where
  abbrev r : RoutesValue
  r = arc_value d.accepted

  abbrev es : List Launch
  es = entries_of c

  abbrev new : world.Call
  new = new_call (world_of (core_view d).rows) c.op c.route (call_of c).rest c.choice

  abbrev client : Option Request
  client = laid_request (arc_value c.laid)

  abbrev first : Launch → Bool
  first = is_launched r new

  call_is : call_of c ≡ new
  call_is = λ j. record {
    op = c.op;
    route = c.route;
    rest = (call_of c).rest;
    since = ap (option_map (λ m. m.0)) can.since_is j;
    choice = c.choice;
    recorded = ap (recorded_all (entries_of c)) can.unlaunched.recorded j;
    taken = can.unlaunched.taken j;
  }

  pub laid : IsLaidOut r new es
  laid = subst (λ v. IsLaidOut r v (entries_of c)) call_is (record { all = can.opened.laid.all; rising = can.opened.laid.rising })

  pub moved : Moved (core_view d) (has_begun (core_view d) c) (began_by c)
  moved = record { allowed = can.begins; moves = began_moves r (core_view d).rows c.op c.route (call_of c).rest c.choice client es d.sound.core laid; routes = refl }

  pub runs_fit : d.counts.running ≤ d.next_call
  runs_fit = let most = at_most_each (call_rows (calls_at d.calls)) d.next_call in let a = d.sound.running_is in omega (arith, most, a)

  fresh_is : fresh c.state ≡ places_from 0 first es
  fresh_is = subst (λ v. fresh c.state ≡ places_from 0 (is_sent (tree_of (arc_value d.accepted) v.route) (situation_of v) (choice_of v) []) (entries_of c)) call_is can.opened.fresh_is

  pub fresh_count : length (fresh c.state) ≡ count first es
  fresh_count = ap length fresh_is ∙ places_count first 0 (entries_of c)

  pub fresh_within : length (fresh c.state) ≤ c.left
  fresh_within = let n = fresh_count in let most = count_at_most first (entries_of c) in let left = can.unlaunched.left in omega (arith, n, most, left)

  -- ---- its entries

  no_number : (e : ℕ) → numbers_of c.entries.items e ≡ None
  no_number e = by_entry (slice_get c.entries.items e) refl
    where
      by_entry : (o : Option Entry) → slice_get c.entries.items e ≡ o → option_and_then (λ x. x.leg) o ≡ None
      by_entry None at = refl
      by_entry (Some x) at = (can.unlaunched.readied.each e x at).0

  no_place : (e : ℕ) → places_of c.entries.items e ≡ None
  no_place e = by_entry (slice_get c.entries.items e) refl
    where
      by_entry : (o : Option Entry) → slice_get c.entries.items e ≡ o → option_and_then (λ x. x.place) o ≡ None
      by_entry None at = refl
      by_entry (Some x) at = (can.unlaunched.readied.each e x at).1

  had : (e : ℕ) → e < length es → option_map errand_view (errand_at c.entries.items e) ≡ Some (errand_for d.next_call c e)
  had e low =
      let len = can.unlaunched.readied.len in
      let x = entry_at c.entries.items e (omega (arith, low, len)) in
      ap (λ o. option_map errand_view (option_and_then (λ y. y.errand) o)) x.1 ∙ by_errand x.0.errand (can.unlaunched.readied.each e x.0 x.1).2
    where
      by_errand : (o : Option Errand) → IsErrandOf (arc_value c.laid) d.next_call e o → option_map errand_view o ≡ Some (errand_for d.next_call c e)
      by_errand None h = absurd h
      by_errand (Some errand) h = λ j. Some (record { call = h.0 j; laid = h.2 j; entry = h.1 j })

  goes_to : (j : ℕ) (m : Launch) → slice_get es j ≡ Some m → first m ≡ true → m.server.0 < length r.servers
  goes_to j m at t =
      let o = outcomes (history_of new.recorded) in
      let goes = subst (λ v. GoesToServers (length (arc_value d.accepted).servers) (tree_of (arc_value d.accepted) v.route) (situation_of v) (choice_of v)) call_is can.goes in
      goes o m (subst (λ v. Has v (λ k. k ≡ m)) (sym (laid.all o)) (filter_has (λ l. has_leg_at (launches_under r new o) l.position) (entries_of c) j m at t))

  pub can_launch : CanLaunch (fresh c.state) c.entries.items (legs d.queues) (room d.queues) (servers d.queues) d.next_leg
  can_launch =
      let n = fresh_within in
      let fit = can.legs_fit in
      let numbers = can.has_room.legs.leg_numbers in
      record {
        fits = omega (arith, n, fit);
        numbers = omega (arith, n, numbers);
        free = λ m high. none_row (legs d.queues m) (d.sound.core.legs_below m high);
        ready = λ j f at.
            let here = due_at first 0 (entries_of c) j f (sym (ap (λ v. slice_get v j) fresh_is) ∙ at) in
            let same : here.index ≡ f = let q = here.is in omega (arith, q) in
            let there : slice_get (entries_of c) f ≡ Some here.launch = subst (λ v. slice_get (entries_of c) v ≡ Some here.launch) same here.at in
            let below = goes_to f here.launch there here.is_due in
            let known = d.sound.known in
            let at_it : (launch_at (entries_of c) f).server.0 ≡ here.launch.server.0 = ap (λ v. v.server.0) (at_launch (entries_of c) f here.launch there) in
            ready_of (servers d.queues) (errand_at c.entries.items f) (errand_for d.next_call c f) (had f (get_below (entries_of c) f here.launch there)) (omega (arith, below, known, at_it));
        apart = λ a b f ga gb. places_apart first 0 (entries_of c) a b f (sym (ap (λ v. slice_get v a) fresh_is) ∙ ga) (sym (ap (λ v. slice_get v b) fresh_is) ∙ gb);
      }

  are_ready : AreReady d.next_call c first 0 es c.entries.items
  are_ready j m at t =
      let q : j ≡ 0 + j = omega arith in
      subst (λ v. (option_map errand_view (errand_at c.entries.items v) ≡ Some (errand_for d.next_call c v)) × (launch_at (entries_of c) v ≡ m)) q (had j (get_below (entries_of c) j m at), at_launch (entries_of c) j m at)

  module _ (entries2 : Vec Entry Global) (q2 : Queues Errand) (launched2 : IsLaunched d.next_leg (fresh c.state) c.entries.items entries2.items (legs d.queues) (legs q2)) where
    abbrev c2 : Call
    c2 = record c { entries = entries2; left = c.left - length (fresh c.state) }

    row_is : call_row c2 ≡ new_row r (core_view d).rows new client es
    row_is = λ j. record {
      call = call_is j;
      request = client;
      entries = entries_of c;
      legs = (launched2.numbers ∙ ap (λ v. with_numbers d.next_leg v (numbers_of c.entries.items)) fresh_is ∙ due_numbers first d.next_leg 0 (entries_of c) (numbers_of c.entries.items)
          ∙ ap (numbered first d.next_leg 0 (entries_of c)) (fun_ext no_number)) j;
    }

    legs_rows : (f : State → rows.State) → f Waiting ≡ rows.Waiting → rows_by f (legs q2) ≡ queued_rows first d.next_call (load_of c) d.next_leg 0 es (rows_by f (legs d.queues))
    legs_rows f waits =
        ap (rows_by f) (launched2.legs_are ∙ ap (λ v. with_legs d.next_leg v c.entries.items (legs d.queues)) fresh_is) ∙ due_rows d.next_call c first f waits d.next_leg 0 (entries_of c) c.entries.items (legs d.queues) are_ready

    -- ---- what holds of a running call

    len2 : length entries2.items ≡ length es
    len2 = launched2.len ∙ can.unlaunched.readied.len

    none_recorded : (l : Launch) → has_outcome (call_of c2) l ≡ false
    none_recorded l = ap (λ v. is_some (outcomes (history_of v) l.position)) (ap (recorded_all (entries_of c)) can.unlaunched.recorded)

    place_none : (e : ℕ) → places_of entries2.items e ≡ None
    place_none e = launched2.places e ∙ no_place e

    running : IsRunning r d.next_call c2
    running = record {
      tracked = subst (λ v. IsTracked (tree_of (arc_value d.accepted) c.route) (situation_of (call_of c)) (choice_of (call_of c)) (entries_of c) v c.state) (sym (ap past_of can.unlaunched.recorded)) can.opened.tracked;
      counted = can.opened.counted;
      len = len2;
      ready = λ e low none.
          let n = len2 in
          let x = entry_at entries2.items e (omega (arith, n, low)) in
          let was = launched2.others e x.0 x.1 (sym (ap (option_and_then (λ z. z.leg)) x.1) ∙ none) in
          ap (λ o. option_map errand_view (option_and_then (λ z. z.errand) o)) (x.1 ∙ sym was) ∙ had e low;
      placed = λ e l at. ap is_some (place_none e) ∙ sym (none_recorded l);
      replies = λ e j at untaken. no_some (sym (place_none e) ∙ at);
      within = λ e j at. no_some (sym (place_none e) ∙ at);
      left =
          let n = fresh_count in
          let both = count_both first (entries_of c) in
          let left = can.unlaunched.left in
          let same : count (λ l. not (is_launched r (call_of c2) l)) (entries_of c) ≡ count (λ l. not (first l)) (entries_of c) = ap (λ v. count (λ l. not (is_launched r v l)) (entries_of c)) call_is in
          omega (arith, n, both, left, same);
      recorded = ap length can.unlaunched.recorded ∙ sym (count_none (has_outcome (call_of c2)) (entries_of c) none_recorded);
      room = can.unlaunched.room;
      known = can.goes;
    }

    module _ (calls2 : Calls) (calls2_is : calls_at calls2 ≡ put (calls_at d.calls) d.next_call (Some c2)) where
      calls_are : call_rows (calls_at calls2) ≡ put (call_rows (calls_at d.calls)) d.next_call (Some (new_row r (core_view d).rows new client es))
      calls_are = ap call_rows calls2_is ∙ call_put (calls_at d.calls) d.next_call (Some c2) ∙ ap (λ v. put (call_rows (calls_at d.calls)) d.next_call (Some v)) row_is

      pub rows_are : (f : State → rows.State) → f Waiting ≡ rows.Waiting
          → all_rows f (calls_at calls2) (legs q2) (since_of d) (suc d.next_call) (d.next_leg + length (fresh c.state)) ≡ began_rows r (all_rows f (calls_at d.calls) (legs d.queues) (since_of d) d.next_call d.next_leg) new client es
      rows_are f waits = λ j. record { calls = calls_are j; legs = legs_rows f waits j; since = since_of d; next_call = suc d.next_call; next_leg = ap (λ v. d.next_leg + v) fresh_count j }

      moves_by : (f : State → rows.State) → f Waiting ≡ rows.Waiting → IsCore r (all_rows f (calls_at d.calls) (legs d.queues) (since_of d) d.next_call d.next_leg)
          → Moves r (all_rows f (calls_at d.calls) (legs d.queues) (since_of d) d.next_call d.next_leg) (all_rows f (calls_at calls2) (legs q2) (since_of d) (suc d.next_call) (d.next_leg + length (fresh c.state))) (began_by c)
      moves_by f waits core =
          subst (λ v. Moves r (all_rows f (calls_at d.calls) (legs d.queues) (since_of d) d.next_call d.next_leg) v (began_by c)) (sym (rows_are f waits))
          (began_moves r (all_rows f (calls_at d.calls) (legs d.queues) (since_of d) d.next_call d.next_leg) c.op c.route (call_of c).rest c.choice client es core laid)

      -- a leg that was there is awaited by none but its own call, which isn't this one
      awaited_less : (n : ℕ) (s : LegRow) → rows_by awaiting_state (legs d.queues) n ≡ Some s → (j : Option ℕ) → s.call ≡ j → awaits (call_rows (calls_at d.calls)) s j ≡ false → awaits (call_rows (calls_at calls2)) s j ≡ false
      awaited_less n s at None is e = refl
      awaited_less n s at (Some j) is e =
          let low = d.sound.awaiting.owner n s j at is in
          ap (λ v. is_one v (λ z. has_no_outcome (leg_of s) z.call)) (ap (λ g. g j) calls_are ∙ put_other (call_rows (calls_at d.calls)) d.next_call j _ (λ q. omega (arith, low, q))) ∙ e

      refused_on : (m : ℕ) (s : LegRow) → rows_by awaiting_state (legs q2) m ≡ Some s → s.state ≡ rows.Held → awaits (call_rows (calls_at calls2)) s s.call ≡ false
      refused_on m s f held =
          elim (Numbering.rows_back first d.next_call (load_of c) d.next_leg 0 (entries_of c) (rows_by awaiting_state (legs d.queues)) m s (sym (ap (λ g. g m) (legs_rows awaiting_state refl)) ∙ f)) [
            | inl old ↦ awaited_less m s old s.call refl (d.sound.refused m s old held)
            | inr fresh_row ↦ absurd (true≢false (ap (λ v. is_unanswered v.state) fresh_row.is ∙ ap is_unanswered held))
          ]

      running_on : (j : ℕ) (z : Call) → calls_at calls2 j ≡ Some z → IsRunning r j z
      running_on j z f =
          elim (put_cases (calls_at d.calls) d.next_call j (Some c2) z (sym (ap (λ g. g j) calls2_is) ∙ f)) [
            | inl q ↦ subst (λ v. IsRunning r v z) q.0 (subst (IsRunning r d.next_call) (same_some q.1) running)
            | inr q ↦ d.sound.calls_run j z q.1
          ]

      pub sound_begun : (counts : Counts) → counts.reserved + length (fresh c.state) ≡ d.counts.reserved + c.left → counts.queued ≡ d.counts.queued + length (fresh c.state) → counts.spooled ≡ d.counts.spooled
          → counts.running ≡ d.counts.running + 1 → room d.queues ≤ room q2 + length (fresh c.state) → servers q2 ≡ servers d.queues
          → IsSound r (calls_at calls2) (legs q2) (since_of d) d.moment.0 (suc d.next_call) (d.next_leg + length (fresh c.state)) counts.reserved counts.queued counts.spooled counts.running (room q2) (servers q2)
      sound_begun counts reserved queued spooled running_is wide known =
          let w = (core_view d).rows in
          let n = fresh_count in
          let left = can.unlaunched.left in
          record {
            core = (moves_by state_of refl d.sound.core).core;
            awaiting = (moves_by awaiting_state refl d.sound.awaiting).core;
            refused = refused_on;
            calls_run = running_on;
            addressed = subst (λ g. (m : ℕ) (l : Leg Errand) → g m ≡ Some l → l.server ≡ (launch_of l.content).server) (sym launched2.legs_are) (launched_addressed d.next_leg (fresh c.state) c.entries.items (legs d.queues) d.sound.addressed);
            reserved_is =
                let more = beginning_reserves r w new client es in
                let same : reserved_by r (rows_of (calls_at calls2) (legs q2) (since_of d) (suc d.next_call) (d.next_leg + length (fresh c.state))) ≡ reserved_by r (began_rows r w new client es) = ap (reserved_by r) (rows_are state_of refl) in
                let a = d.sound.reserved_is in
                omega (arith, more, same, a, n, left, reserved);
            queued_is =
                let more = beginning_queues r w new client es in
                let same : queued_legs (rows_of (calls_at calls2) (legs q2) (since_of d) (suc d.next_call) (d.next_leg + length (fresh c.state))) ≡ queued_legs (began_rows r w new client es) = ap queued_legs (rows_are state_of refl) in
                let a = d.sound.queued_is in
                omega (arith, more, same, a, n, queued);
            spooled_is =
                let more = spooled_stays first d.next_call (load_of c) d.next_leg 0 (entries_of c) (rows_by state_of (legs d.queues)) in
                let same : sum_below spooled_one (rows_by state_of (legs q2)) (d.next_leg + length (fresh c.state))
                ≡ sum_below spooled_one (queued_rows first d.next_call (load_of c) d.next_leg 0 (entries_of c) (rows_by state_of (legs d.queues))) (d.next_leg + length (filter first (entries_of c))) =
                ap (λ g. sum_below spooled_one g (d.next_leg + length (fresh c.state))) (legs_rows state_of refl)
                ∙ ap (λ v. sum_below spooled_one (queued_rows first d.next_call (load_of c) d.next_leg 0 (entries_of c) (rows_by state_of (legs d.queues))) (d.next_leg + v)) n in
                let a = d.sound.spooled_is in
                omega (arith, more, same, a, spooled);
            running_is =
                let below = sum_above one (call_rows (calls_at d.calls)) d.next_call (Some (new_row r w new client es)) d.next_call (omega arith) in
                let here : one (put (call_rows (calls_at d.calls)) d.next_call (Some (new_row r w new client es)) d.next_call) ≡ 1 = ap one (put_same (call_rows (calls_at d.calls)) d.next_call (Some (new_row r w new client es))) in
                let same : sum_below one (call_rows (calls_at calls2)) (suc d.next_call) ≡ sum_below one (put (call_rows (calls_at d.calls)) d.next_call (Some (new_row r w new client es))) (suc d.next_call) = ap (λ g. sum_below one g (suc d.next_call)) calls_are in
                let a = d.sound.running_is in
                omega (arith, below, here, same, a, running_is);
            room_is = let fit = can.legs_fit in omega (arith, fit, reserved, wide);
            limit = let fit = can.has_room.legs.legs in omega (arith, fit, reserved, queued);
            numbers = let fit = can.has_room.legs.leg_numbers in omega (arith, fit, reserved);
            known = let a = d.sound.known in omega (arith, a, known);
            era = d.sound.era;
          }

-- ---- where legs go

pub goes_to_servers : (r : RoutesValue) (route : ℕ) (entry : RouteEntry) → slice_get r.entries route ≡ Some entry → IsSoundRoutes r → (op : Op) (rest : List ℕ) (since : Option ℕ) (c : Choice) → IsChoice (sizes_of r) c
    → GoesToServers (length r.servers) (tree_of r route) (asked op rest since) c
goes_to_servers r route entry at sound op rest since c choice o l h =
    let tree : tree_of r route ≡ entry.tree = ap (λ v. unwrap_or (option_map (λ e. e.tree) v) error) at in
    let here : Has (launched entry.tree (asked op rest since) c o) (λ m. m ≡ l) = subst (λ t. Has (launched t (asked op rest since) c o) (λ m. m ≡ l)) tree h in
    let leg = legs_are_of_pools entry.tree op rest since c o l here in
    let low = slice_get_within r.entries route entry at in
    let its = get_or_from_slice_get r.entries route entry entry at in
    let sized = entry_sized r entry sound (route, low, its) l.position leg.0 leg.1 in
    let sound_tree : IsSoundTree (length r.servers) r.symbols entry.tree = subst (λ (e : RouteEntry). IsSoundTree (length r.servers) r.symbols e.tree) its (sound route entry low) in
    let pool = pool_sound (length r.servers) r.symbols entry.tree l.position leg.0 sound_tree leg.1 in
    let index = choice leg.0.symbol sized.0 in
    let size = sized.1 in
    let below : c leg.0.symbol < length leg.0.servers = omega (arith, index, size) in
    let server = pool.known (c leg.0.symbol) 0 below in
    let same = leg.2 in
    omega (arith, server, same)

-- ---- more room

pub sound_roomier : (d : Dispatcher) (calls2 : Calls) (q2 : Queues Errand) → calls_at calls2 ≡ calls_at d.calls → legs q2 ≡ legs d.queues → room d.queues ≤ room q2 → servers q2 ≡ servers d.queues
    → IsSound (arc_value d.accepted) (calls_at calls2) (legs q2) (since_of d) d.moment.0 d.next_call d.next_leg d.counts.reserved d.counts.queued d.counts.spooled d.counts.running (room q2) (servers q2)
sound_roomier d calls2 q2 calls_are legs_are wide known =
    let i = d.sound in
    subst (λ f. IsSound (arc_value d.accepted) f (legs q2) (since_of d) d.moment.0 d.next_call d.next_leg d.counts.reserved d.counts.queued d.counts.spooled d.counts.running (room q2) (servers q2)) (sym calls_are)
    (subst (λ g. IsSound (arc_value d.accepted) (calls_at d.calls) g (since_of d) d.moment.0 d.next_call d.next_leg d.counts.reserved d.counts.queued d.counts.spooled d.counts.running (room q2) (servers q2)) (sym legs_are)
    (record {
      core = i.core;
      awaiting = i.awaiting;
      refused = i.refused;
      calls_run = i.calls_run;
      addressed = i.addressed;
      reserved_is = i.reserved_is;
      queued_is = i.queued_is;
      spooled_is = i.spooled_is;
      running_is = i.running_is;
      room_is = let a = i.room_is in omega (arith, a, wide);
      limit = i.limit;
      numbers = i.numbers;
      known = let a = i.known in omega (arith, a, known);
      era = i.era;
    }))

-- ---- why a call doesn't begin

-- what is laid out in memory is what the call can launch
pub planned_for : (d : Dispatcher) (asks : Asked) (state : EvalState) (launches : List Launch) (tree : Tree) → option_map (λ t. t) (Some tree) ≡ option_map (λ e. e.tree) (slice_get (arc_value d.accepted).entries asks.route)
    → HasOpened tree (asked asks.op (arc_value asks.rest) (option_map (λ m. m.0) d.since)) (slice_index asks.choice) launches state → launches ≡ legs_of_call (arc_value d.accepted) (asked_call (core_view d) asks)
unfolding legs_of_call
planned_for d asks state launches tree at opened =
    let same : tree_of (arc_value d.accepted) asks.route ≡ tree = ap (λ o. unwrap_or o error) (sym at) in
    opened.planned ∙ ap (λ t. planned_legs t (asked asks.op (arc_value asks.rest) (option_map (λ m. m.0) d.since)) (slice_index asks.choice)) (sym same)

-- the counts say what fits
pub leg_room : (d : Dispatcher) (count : ℕ) → LegsFit (core_view d) count → HasLegRoom d count
leg_room d count fit =
    let queued = d.sound.queued_is in
    let reserved = d.sound.reserved_is in
    let a = fit.limit in
    let b = fit.legs in
    record { legs = omega (arith, a, queued, reserved); call_numbers = fit.calls; leg_numbers = omega (arith, b, reserved) }

pub legs_have_room : (d : Dispatcher) (count : ℕ) → HasLegRoom d count → LegsFit (core_view d) count
legs_have_room d count fit =
    let queued = d.sound.queued_is in
    let reserved = d.sound.reserved_is in
    let a = fit.legs in
    let b = fit.leg_numbers in
    record { limit = omega (arith, a, queued, reserved); calls = fit.call_numbers; legs = omega (arith, b, reserved) }

no_history : (entries count other : ℕ) → count ≡ other → 1000000 < entries + (2 + 3 * count) → entries + (2 + 3 * other) ≤ 1000000 → ⊥
no_history entries count other same over fit = omega (arith, same, over, fit)

pub unstarted_as : (d : Dispatcher) (asks : Asked) (launches : List Launch) (fault : CoreFault) → launches ≡ legs_of_call (arc_value d.accepted) (asked_call (core_view d) asks) → (fault ≡ LegsFull) ⊎ (fault ≡ ChapterFull)
    → (fault ≡ LegsFull → HasLegRoom d (length launches) → ⊥) → (fault ≡ ChapterFull → HasLegRoom d (length launches) × (1000000 < d.entries + (2 + 3 * length launches))) → IsUnstarted (core_view d) asks fault
unstarted_as d asks launches fault planned either many unrecorded =
    let count : length launches ≡ reservation (core_view d) (asked_call (core_view d) asks) = ap length planned in
    elim either [
      | inl full ↦ subst (IsUnstarted (core_view d) asks) (sym full) (λ fit. many full (leg_room d (length launches) (subst (LegsFit (core_view d)) (sym count) fit)))
      | inr full ↦
          let f = unrecorded full in
          subst (IsUnstarted (core_view d) asks) (sym full)
          (subst (LegsFit (core_view d)) count (legs_have_room d (length launches) f.0), λ fit. no_history d.entries (length launches) (reservation (core_view d) (asked_call (core_view d) asks)) count f.1 fit)
    ]

pub entry_of : (o : Option RouteEntry) (t : Tree) → Some t ≡ option_map (λ e. e.tree) o → (e : RouteEntry) × (o ≡ Some e) × (t ≡ e.tree)
entry_of None t e = no_some (sym e)
entry_of (Some x) t e = (x, refl, same_some e)

pub can_start : (d : Dispatcher) (asks : Asked) (state : EvalState) (launches : List Launch) (t : Tree) → Some t ≡ option_map (λ e. e.tree) (slice_get (arc_value d.accepted).entries asks.route)
    → IsChoice (sizes_of (arc_value d.accepted)) (slice_index asks.choice) → HasOpened t (asked asks.op (arc_value asks.rest) (option_map (λ m. m.0) d.since)) (slice_index asks.choice) launches state → HasRoom d (length launches)
    → CanStart d asks state launches
can_start d asks state launches t at choice opened fits =
    let e = entry_of (slice_get (arc_value d.accepted).entries asks.route) t at in
    record {
      entry = e.0;
      there = e.1;
      choice = choice;
      opened = subst (λ z. HasOpened z (asked asks.op (arc_value asks.rest) (option_map (λ m. m.0) d.since)) (slice_index asks.choice) launches state) e.2 opened;
      fits = fits;
    }

pub same_room : (d d2 : Dispatcher) (count : ℕ) → d2.counts ≡ d.counts → d2.next_call ≡ d.next_call → d2.next_leg ≡ d.next_leg → d2.entries ≡ d.entries → HasRoom d count → HasRoom d2 count
same_room d d2 count counts call leg entries h =
    let a : d2.counts.queued ≡ d.counts.queued = ap (λ v. v.queued) counts in
    let b : d2.counts.reserved ≡ d.counts.reserved = ap (λ v. v.reserved) counts in
    let l = h.legs.legs in
    let c = h.legs.call_numbers in
    let n = h.legs.leg_numbers in
    let m = h.entries in
    record { legs = record { legs = omega (arith, a, b, l); call_numbers = omega (arith, call, c); leg_numbers = omega (arith, leg, b, n) }; entries = omega (arith, entries, m) }

-- ---- what contracts see of a call that began

pub planned_start : (d : Dispatcher) (asks : Asked) (state : EvalState) (launches : List Launch) → CanStart d asks state launches → launches ≡ legs_of_call (arc_value d.accepted) (asked_call (core_view d) asks)
planned_start d asks state launches can = planned_for d asks state launches can.entry.tree (sym (ap (option_map (λ e. e.tree)) can.there)) can.opened

pub moved_as : (d d2 : Dispatcher) (asks : Asked) (state : EvalState) (launches : List Launch) (c : Call) (new : CoreView) (number : ℕ) (since : Option Moment) → core_view d2 ≡ core_view d → IsNewCall number since asks state launches c
    → Moved (core_view d2) new (began_by c) → Moved (core_view d) new (Began asks.op asks.route (arc_value asks.rest) asks.choice)
moved_as d d2 asks state launches c new number since same made h =
    subst (λ v. Moved v new (Began asks.op asks.route (arc_value asks.rest) asks.choice)) same
    (subst (λ m. Moved (core_view d2) new m) (λ j. Began (made.op j) (made.route j) (made.rest j) (made.choice j)) h)

pub has_begun_as : (d d2 : Dispatcher) (asks : Asked) (state : EvalState) (launches : List Launch) (c : Call) (new : CoreView) (number : ℕ) (since : Option Moment) → core_view d2 ≡ core_view d → IsNewCall number since asks state launches c
    → new ≡ has_begun (core_view d2) c → launches ≡ legs_of_call (arc_value d.accepted) (asked_call (core_view d) asks) → HasRoom d (length launches) → HasBegun (core_view d) new (asked_call (core_view d) asks) (Some (arc_value asks.request))
has_begun_as d d2 asks state launches c new number since same made is planned fits =
    let count : length launches ≡ reservation (core_view d) (asked_call (core_view d) asks) = ap length planned in
    record {
      legs_fit = subst (LegsFit (core_view d)) count (legs_have_room d (length launches) fits.legs);
      history_fits = subst (HistoryFits (core_view d)) count fits.entries;
      view =
          is ∙ ap (λ v. has_begun v c) same
          ∙ (λ j. record (core_view d) {
            rows = began_rows (arc_value d.accepted) (core_view d).rows (new_call (world_of (core_view d).rows) (made.op j) (made.route j) (made.rest j) (made.choice j)) (made.request j) (made.entries j);
            entries = d.entries + (2 + 3 * length (made.entries j));
          })
          ∙ ap (λ es. record (core_view d) { rows = began_rows (arc_value d.accepted) (core_view d).rows (asked_call (core_view d) asks) (Some (arc_value asks.request)) es; entries = d.entries + (2 + 3 * length es) }) planned;
    }

-- ---- a call that is made can be added

pub can_add : (d : Dispatcher) (asks : Asked) (state : EvalState) (launches : List Launch) (c : Call) (entry : RouteEntry) → slice_get (arc_value d.accepted).entries asks.route ≡ Some entry → IsSoundRoutes (arc_value d.accepted) → IsRest (arc_value asks.rest)
    → IsChoice (sizes_of (arc_value d.accepted)) (slice_index asks.choice) → IsNewCall d.next_call d.since asks state launches c
    → HasOpened entry.tree (asked asks.op (arc_value asks.rest) (option_map (λ m. m.0) d.since)) (slice_index asks.choice) launches state → HasRoom d (length launches) → 0 < call_room d.calls → d.counts.reserved + length launches ≤ room d.queues → CanAdd d c
can_add d asks state launches c entry at sound rest choice new opened fits calls_fit legs_fit =
    let r : RoutesValue = arc_value d.accepted in
    let tree : tree_of r asks.route ≡ entry.tree = ap (λ v. unwrap_or (option_map (λ e. e.tree) v) error) at in
    let count : length launches ≡ c.left = ap length (sym new.entries) ∙ sym new.unlaunched.left in
    let route_at : slice_get r.entries c.route ≡ Some entry = ap (slice_get r.entries) new.route ∙ at in
    let since : option_map (λ (m : Moment). m.0) c.since ≡ option_map (λ m. m.0) d.since = ap (option_map (λ m. m.0)) new.since_is in
    let situations : asked asks.op (arc_value asks.rest) (option_map (λ m. m.0) d.since) ≡ situation_of (call_of c) = λ j. asked (sym new.op j) (sym new.rest j) (sym since j) in
    let choices : slice_index asks.choice ≡ choice_of (call_of c) = ap slice_index (sym new.choice) in
    let trees : entry.tree ≡ tree_of r c.route = sym tree ∙ ap (tree_of r) (sym new.route) in
    record {
      begins = record {
        entry = entry;
        there = route_at;
        rest_is = subst IsRest (sym new.rest) rest;
        choice_is = subst (IsChoice (sizes_of r)) choices choice;
      };
      since_is = new.since_is;
      opened = subst (λ t. HasOpened t (situation_of (call_of c)) (choice_of (call_of c)) (entries_of c) c.state) trees
          (subst (λ s. HasOpened entry.tree s (choice_of (call_of c)) (entries_of c) c.state) situations
          (subst (λ h. HasOpened entry.tree (asked asks.op (arc_value asks.rest) (option_map (λ m. m.0) d.since)) h (entries_of c) c.state) choices
          (subst (λ es. HasOpened entry.tree (asked asks.op (arc_value asks.rest) (option_map (λ m. m.0) d.since)) (slice_index asks.choice) es c.state) (sym new.entries)
          (subst (λ z. HasOpened entry.tree (asked asks.op (arc_value asks.rest) (option_map (λ m. m.0) d.since)) (slice_index asks.choice) launches z) (sym new.state_is) opened))));
      goes = subst (λ t. GoesToServers (length r.servers) t (situation_of (call_of c)) (choice_of (call_of c))) (ap (tree_of r) (sym new.route))
          (subst (λ s. GoesToServers (length r.servers) (tree_of r asks.route) s (choice_of (call_of c))) situations
          (subst (λ h. GoesToServers (length r.servers) (tree_of r asks.route) (asked asks.op (arc_value asks.rest) (option_map (λ m. m.0) d.since)) h) choices
          (goes_to_servers r asks.route entry at sound asks.op (arc_value asks.rest) (option_map (λ m. m.0) d.since) (slice_index asks.choice) choice)));
      unlaunched = new.unlaunched;
      has_room = subst (HasRoom d) count fits;
      calls_fit = calls_fit;
      legs_fit = omega (arith, legs_fit, count);
    }

-- after more room was made
pub can_add_then : (d d2 : Dispatcher) (asks : Asked) (state : EvalState) (launches : List Launch) (c : Call) (can : CanStart d asks state launches) → d2.accepted ≡ d.accepted → d2.since ≡ d.since → d2.counts ≡ d.counts → d2.next_call ≡ d.next_call
    → d2.next_leg ≡ d.next_leg → d2.entries ≡ d.entries → IsSoundRoutes (arc_value d2.accepted) → IsRest (arc_value asks.rest) → IsNewCall d2.next_call d2.since asks state launches c → 0 < call_room d2.calls → d.counts.reserved + length launches ≤ room d2.queues
    → CanAdd d2 c
can_add_then d d2 asks state launches c can accepted since counts call leg entries sound rest made calls_fit legs_fit =
    let b : d2.counts.reserved ≡ d.counts.reserved = ap (λ v. v.reserved) counts in
    let routes : arc_value d2.accepted ≡ arc_value d.accepted = ap arc_value accepted in
    can_add d2 asks state launches c can.entry (ap (λ (r : RoutesValue). slice_get r.entries asks.route) routes ∙ can.there) sound rest (subst (λ (r : RoutesValue). IsChoice (sizes_of r) (slice_index asks.choice)) (sym routes) can.choice) made
    (subst (λ s. HasOpened can.entry.tree (asked asks.op (arc_value asks.rest) (option_map (λ m. m.0) s)) (slice_index asks.choice) launches state) (sym since) can.opened) (same_room d d2 (length launches) counts call leg entries can.fits) calls_fit (omega (arith, b, legs_fit))
