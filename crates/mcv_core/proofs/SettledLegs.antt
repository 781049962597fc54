-- After a leg has left its state, and its call has recorded a reply of it.
use Rattle.std.proofs.Common.{◌≡◌, cond, inl, inr, ℕ, ◌+◌, ◌-◌, ◌<◌, ◌≤◌, ◌^◌, Bool, true, false, Option, Some, None, option_map, refl, sym, ap, ◌∙◌, subst, arith}
use Rattle.std.specs.Arc.{arc_value}
use Rattle.std.specs.Prelude.{option_and_then, unwrap_or}
use Rattle.std.proofs.Math.Path.{fun_ext}
use Rattle.std.proofs.lemmas.Bool.{cases_eq}
use Rattle.mcv_base.specs.declared.reply.Part.{Part}
use Rattle.mcv_base.specs.Reply.{ReplyValue, part_value}
use Rattle.mcv_queues.specs.declared.leg.Leg.{Leg}
use Rattle.mcv_queues.specs.declared.leg.State.TheVariants as states
use Rattle.mcv_queues.specs.declared.queues.Queues.{Queues}
use Rattle.mcv_queues.specs.Legs.{is_flight, is_in_flight, is_in_flight_to}
use Rattle.mcv_queues.specs.Queues.{in_flight, legs, room, servers}
use Rattle.mcv_world.specs.World.{is_counted_delete, put}
use Rattle.mcv_world.specs.Moves.{has_no_outcome}
use Rattle.mcv_world.proofs.Numbers.{put_same, put_other}
use Rattle.mcv_events.specs.Rows as rows
use Rattle.mcv_events.specs.Rows.{CanRecord, LegRow, Rows, leg_of, recorded_rows, with_leg_row}
use Rattle.mcv_events.specs.Events.{recorded_rows_for, recorded_rows_if}
use Rattle.mcv_events.specs.QueuedLegs.{count_in, count_of}
use Rattle.mcv_core.specs.declared.call.Call.{Call}
use Rattle.mcv_core.specs.declared.call.Recording.{Recording}
use Rattle.mcv_core.specs.declared.calls.Calls.{Calls}
use Rattle.mcv_core.specs.declared.counts.Counts.{Counts}
use Rattle.mcv_core.specs.declared.dispatcher.Dispatcher.{Dispatcher}
use Rattle.mcv_core.specs.declared.errand.Errand.{Errand}
use Rattle.mcv_core.specs.declared.settle.Settling.{Settling}
use Rattle.mcv_core.specs.declared.settle.Settling.TheVariants as kinds
use Rattle.mcv_core.specs.Calls.{CanNoteAt, IsRecordedAt, calls_at}
use Rattle.mcv_core.specs.Errands.{launch_of}
use Rattle.mcv_core.specs.Facts.{records_in}
use Rattle.mcv_core.specs.Recordings.{HasRecorded}
use Rattle.mcv_core.specs.Rows.{call_of, call_row, row_by, rows_of, state_of}
use Rattle.mcv_core.specs.Settling.{HasCounted, flights_to, freed_by, is_gone, is_settling, is_storing_leg, records_to, row_to, settled_row, settled_to}
use Rattle.mcv_core.specs.Soundness.{spooled_in, spooled_one, IsSound}
use Rattle.mcv_core.specs.View.{CanSettle, core_view, has_settled, since_of}
use Rattle.mcv_core.proofs.LegViews as views
use Rattle.mcv_core.proofs.Settlements
use Rattle.mcv_core.proofs.Settlements.{Settles}
use Rattle.mcv_core.proofs.SpoolNumbers
use Rattle.mcv_core.proofs.States

-- ---- by what becomes of the leg

settles_by : (l : Leg Errand) (to : Settling) → (is_gone to ≡ false → is_counted_delete (leg_of (row_by state_of l)) ≡ true) → Settles l (settled_to to (Some l))
settles_by l kinds.Gone h = inl refl
settles_by l (kinds.InSpool seq) h = inr (record { state = states.InSpool; seq = Some seq; is = refl; shut = refl; shut_too = refl; counted = h refl })
settles_by l kinds.Refused h = inr (record { state = states.Refused; seq = l.«record»; is = refl; shut = refl; shut_too = refl; counted = h refl })

row_is_to : (l : Leg Errand) (to : Settling) → option_map (row_by state_of) (settled_to to (Some l)) ≡ row_to to (row_by state_of l)
row_is_to l kinds.Gone = refl
row_is_to l (kinds.InSpool seq) = refl
row_is_to l kinds.Refused = refl

counts_to : (l : Leg Errand) (to : Settling) → count_of (option_map (row_by state_of) (settled_to to (Some l))) + is_settling to ≡ 1
counts_to l kinds.Gone = refl
counts_to l (kinds.InSpool seq) = refl
counts_to l kinds.Refused = refl

stores_to : (l : Leg Errand) (to : Settling) → spooled_one (option_map (row_by state_of) (settled_to to (Some l))) ≡ is_storing_leg to
stores_to l kinds.Gone = refl
stores_to l (kinds.InSpool seq) = refl
stores_to l kinds.Refused = refl

unspooled : (t : rows.State) → count_in t ≡ 1 → spooled_in t ≡ 0
unspooled rows.Waiting e = refl
unspooled rows.Sent e = refl
unspooled rows.Held e = refl
unspooled rows.InSpool e = absurd (omega (arith, e))
unspooled rows.InReplay e = absurd (omega (arith, e))

freed_is : (step : Recording) → freed_by step ≡ step.launched + cond step.ended step.left 0
freed_is step = by_cases step.ended
  where
    by_cases : (b : Bool) → cond b (step.launched + step.left) step.launched ≡ step.launched + cond b step.left 0
    by_cases true = refl
    by_cases false = omega arith

put_twice : {A : Type 0} (f : ℕ → Option A) (k : ℕ) (v w : Option A) → put (put f k v) k w ≡ put f k w
put_twice f k v w = fun_ext (λ m. elim (cases_eq k m) [
  | inl q ↦ subst (λ j. put (put f k v) k w j ≡ put f k w j) q (put_same (put f k v) k w ∙ sym (put_same f k w))
  | inr ne ↦ put_other (put f k v) k m w ne ∙ put_other f k m v ne ∙ sym (put_other f k m w ne)
])

-- the calls, where the one that has recorded goes if it has ended
pub removed : (calls calls2 calls3 : ℕ → Option Call) (k : ℕ) (c : Call) (ended : Bool) → calls2 ≡ put calls k (Some c) → calls3 ≡ cond ended (put calls2 k None) calls2 → calls3 ≡ put calls k (cond ended None (Some c))
removed calls calls2 calls3 k c ended two three = three ∙ by_cases ended
  where
    by_cases : (b : Bool) → cond b (put calls2 k None) calls2 ≡ put calls k (cond b None (Some c))
    by_cases true = ap (λ f. put f k None) two ∙ put_twice calls k (Some c) None
    by_cases false = two

flies_to : (d : Dispatcher) (n : ℕ) (l : Leg Errand) (at : legs d.queues n ≡ Some l) (to : Settling) → is_flight l.state ≡ is_gone to → (flights2 : ℕ → ℕ)
    → ((m : ℕ) → flights2 m ≡ cond (is_in_flight_to m (legs d.queues n)) (in_flight d.queues m - 1) (in_flight d.queues m)) → flights2 ≡ flights_to to (in_flight d.queues) (launch_of l.content).server.0
flies_to d n l at kinds.Gone flies flights2 e = views.flights_landed d n l at flies flights2 e
flies_to d n l at (kinds.InSpool seq) flies flights2 e = views.flights_stay d n l at flies flights2 e
flies_to d n l at kinds.Refused flies flights2 e = views.flights_stay d n l at flies flights2 e

module _ (d : Dispatcher) (n : ℕ) (to : Settling) (can : CanSettle d n to) where
  settles : Settles can.leg (settled_to to (Some can.leg))
  settles = settles_by can.leg to can.counted

  pub flies : is_in_flight (legs d.queues n) ≡ is_gone to
  flies = ap is_in_flight can.at ∙ can.flies

  pub leaving : is_settling to ≤ d.counts.queued
  leaving = let one = counts_to can.leg to in let some = States.one_queued (arc_value d.accepted) (calls_at d.calls) (legs d.queues) (since_of d) d.moment.0 d.next_call d.next_leg d.counts.reserved d.counts.queued d.counts.spooled d.counts.running (room d.queues) (servers d.queues) d.sound n can.leg can.at can.queued in omega (arith, one, some)

  pub storing : d.counts.spooled + 1 < 2 ^ 64
  storing = let below = States.more_spooled (arc_value d.accepted) (calls_at d.calls) (legs d.queues) (since_of d) d.moment.0 d.next_call d.next_leg d.counts.reserved d.counts.queued d.counts.spooled d.counts.running (room d.queues) (servers d.queues) d.sound n can.leg can.at (unspooled (state_of can.leg.state) can.queued) in let numbers = d.sound.numbers in omega (arith, below, numbers)

  module _ (q1 : Queues Errand) (legs1_is : legs q1 ≡ put (legs d.queues) n (settled_to to (legs d.queues n))) where
    legs1_put : legs q1 ≡ put (legs d.queues) n (settled_to to (Some can.leg))
    legs1_put = legs1_is ∙ ap (λ o. put (legs d.queues) n (settled_to to o)) can.at

    abbrev w1 : Rows
    w1 = rows_of (calls_at d.calls) (legs q1) (since_of d) d.next_call d.next_leg

    reserves : can.running.left ≤ d.counts.reserved
    reserves = Settlements.left_reserved (arc_value d.accepted) (calls_at d.calls) (legs d.queues) (since_of d) d.moment.0 d.next_call d.next_leg d.counts.reserved d.counts.queued d.counts.spooled d.counts.running (room d.queues) (servers d.queues) d.sound n can.leg can.at can.call can.running can.own can.there can.awaited (settled_to to (Some can.leg)) settles (legs q1) legs1_put

    pub can_note : room d.queues ≤ room q1 → servers q1 ≡ servers d.queues → CanNoteAt (calls_at d.calls) can.call can.leg.content.entry (legs q1) (room q1) (servers q1) d.next_leg
    can_note wide known =
        let run = d.sound.calls_run can.call can.running can.there in
        let left = run.left in
        let low = reserves in
        let has_room = d.sound.room_is in
        let numbers = d.sound.numbers in
        let servers_are = d.sound.known in
        record {
          call = can.running;
          there = can.there;
          can = record {
            routes = arc_value d.accepted;
            rows = w1;
            number = can.call;
            core = Settlements.sound_core (arc_value d.accepted) (calls_at d.calls) (legs d.queues) (since_of d) d.moment.0 d.next_call d.next_leg d.counts.reserved d.counts.queued d.counts.spooled d.counts.running (room d.queues) (servers d.queues) d.sound n can.leg can.at can.call can.running can.own can.there can.awaited (settled_to to (Some can.leg)) settles (legs q1) legs1_put;
            can = Settlements.sound_can (arc_value d.accepted) (calls_at d.calls) (legs d.queues) (since_of d) d.moment.0 d.next_call d.next_leg d.counts.reserved d.counts.queued d.counts.spooled d.counts.running (room d.queues) (servers d.queues) d.sound n can.leg can.at can.call can.running can.own can.there can.awaited (settled_to to (Some can.leg)) settles (legs q1) legs1_put;
            running = run;
            free = Settlements.free (arc_value d.accepted) (calls_at d.calls) (legs d.queues) (since_of d) d.moment.0 d.next_call d.next_leg d.counts.reserved d.counts.queued d.counts.spooled d.counts.running (room d.queues) (servers d.queues) d.sound n can.leg can.at can.call can.running can.own can.there can.awaited (settled_to to (Some can.leg)) settles (legs q1) legs1_put;
            enough = omega (arith, left, low, has_room, wide);
            small = omega (arith, left, low, numbers);
            known = omega (arith, servers_are, known);
          };
        }

    module _ (outcome taken : Part) (same : part_value taken ≡ part_value outcome) (calls2 : ℕ → Option Call) (q2 : Queues Errand) (result : Recording)
        (recorded : IsRecordedAt (calls_at d.calls) calls2 can.call can.running can.leg.content.entry outcome taken d.next_leg (legs q1) (legs q2) result) where
      abbrev x : ReplyValue
      x = part_value outcome

      has : HasRecorded (arc_value d.accepted) w1 can.call can.running recorded.call can.leg.content.entry x (legs q1) (legs q2) result
      has = recorded.recorded (arc_value d.accepted) w1 (Settlements.sound_core (arc_value d.accepted) (calls_at d.calls) (legs d.queues) (since_of d) d.moment.0 d.next_call d.next_leg d.counts.reserved d.counts.queued d.counts.spooled d.counts.running (room d.queues) (servers d.queues) d.sound n can.leg can.at can.call can.running can.own can.there can.awaited (settled_to to (Some can.leg)) settles (legs q1) legs1_put) (Settlements.sound_can (arc_value d.accepted) (calls_at d.calls) (legs d.queues) (since_of d) d.moment.0 d.next_call d.next_leg d.counts.reserved d.counts.queued d.counts.spooled d.counts.running (room d.queues) (servers d.queues) d.sound n can.leg can.at can.call can.running can.own can.there can.awaited (settled_to to (Some can.leg)) settles (legs q1) legs1_put) (d.sound.calls_run can.call can.running can.there) refl same

      pub spent : result.launched + result.left ≤ d.counts.reserved
      spent = let e = has.spent in let low = reserves in omega (arith, e, low)

      pub numbers_fit : d.next_leg + result.launched < 2 ^ 64
      numbers_fit = let e = has.spent in let low = reserves in let numbers = d.sound.numbers in omega (arith, e, low, numbers)

      module _ (calls3 : Calls) (calls3_is : calls_at calls3 ≡ cond result.ended (put calls2 can.call None) calls2) where
        calls3_put : calls_at calls3 ≡ put (calls_at d.calls) can.call (cond result.ended None (Some recorded.call))
        calls3_put = removed (calls_at d.calls) calls2 (calls_at calls3) can.call recorded.call result.ended recorded.at calls3_is

        pub ending : cond result.ended 1 0 ≤ d.counts.running
        ending = let e = Settlements.running2_is (arc_value d.accepted) (calls_at d.calls) (legs d.queues) (since_of d) d.moment.0 d.next_call d.next_leg d.counts.reserved d.counts.queued d.counts.spooled d.counts.running (room d.queues) (servers d.queues) d.sound n can.leg can.at can.call can.running can.own can.there can.awaited (settled_to to (Some can.leg)) settles (legs q1) legs1_put x recorded.call (legs q2) result has (calls_at calls3) calls3_put in omega (arith, e)

        pub sound_then : (counts : Counts) → HasCounted d.counts to result counts → room d.queues ≤ room q1 → room q1 ≤ room q2 + result.launched → servers q2 ≡ servers d.queues
            → IsSound (arc_value d.accepted) (calls_at calls3) (legs q2) (since_of d) d.moment.0 d.next_call (d.next_leg + result.launched) counts.reserved counts.queued counts.spooled counts.running (room q2) (servers q2)
        sound_then counts counted wide wide2 known =
            let one = counts_to can.leg to in
            let queued = counted.queued in
            let freed = freed_is result in
            let reserved = counted.reserved in
            Settlements.settled (arc_value d.accepted) (calls_at d.calls) (legs d.queues) (since_of d) d.moment.0 d.next_call d.next_leg d.counts.reserved d.counts.queued d.counts.spooled d.counts.running (room d.queues) (servers d.queues) d.sound n can.leg can.at can.call can.running can.own can.there can.awaited (settled_to to (Some can.leg)) settles (legs q1) legs1_put x recorded.call (legs q2) result has (calls_at calls3) calls3_put can.queued (omega (arith, one)) (unspooled (state_of can.leg.state) can.queued)
            counts.queued counts.spooled counts.running counts.reserved (room q1) (room q2) (servers q2) (omega (arith, one, queued)) (counted.spooled ∙ ap (λ v. d.counts.spooled + v) (sym (stores_to can.leg to))) counted.running
            (omega (arith, freed, reserved)) wide wide2 known

        -- ---- what contracts see of it

        rows_then : rows_of (calls_at calls3) (legs q2) (since_of d) d.next_call (d.next_leg + result.launched)
            ≡ recorded_rows (arc_value d.accepted) (with_leg_row (core_view d).rows n (row_to to (row_by state_of can.leg))) can.call (call_row can.running) (launch_of can.leg.content).position x
        rows_then =
            Settlements.rows2_is (arc_value d.accepted) (calls_at d.calls) (legs d.queues) (since_of d) d.moment.0 d.next_call d.next_leg d.counts.reserved d.counts.queued d.counts.spooled d.counts.running (room d.queues) (servers d.queues) d.sound n can.leg can.at can.call can.running can.own can.there can.awaited (settled_to to (Some can.leg)) settles (legs q1) legs1_put x recorded.call (legs q2) result has (calls_at calls3) calls3_put state_of Settlements.as_it_is
            ∙ ap (λ v. recorded_rows (arc_value d.accepted) w1 can.call (call_row can.running) v.position x) (Settlements.launch_is (arc_value d.accepted) (calls_at d.calls) (legs d.queues) (since_of d) d.moment.0 d.next_call d.next_leg d.counts.reserved d.counts.queued d.counts.spooled d.counts.running (room d.queues) (servers d.queues) d.sound n can.leg can.at can.call can.running can.own can.there can.awaited (settled_to to (Some can.leg)) settles (legs q1) legs1_put)
            ∙ ap (λ v. recorded_rows (arc_value d.accepted) v can.call (call_row can.running) (launch_of can.leg.content).position x)
            (Settlements.w1_is (arc_value d.accepted) (calls_at d.calls) (legs d.queues) (since_of d) d.moment.0 d.next_call d.next_leg d.counts.reserved d.counts.queued d.counts.spooled d.counts.running (room d.queues) (servers d.queues) d.sound n can.leg can.at can.call can.running can.own can.there can.awaited (settled_to to (Some can.leg)) settles (legs q1) legs1_put state_of ∙ ap (with_leg_row (core_view d).rows n) (row_is_to can.leg to))

        -- the call runs and awaits the leg
        if_awaited : (v : Rows) (s : LegRow) → v.calls can.call ≡ Some (call_row can.running) → has_no_outcome (leg_of s) (call_of can.running) ≡ true
            → recorded_rows (arc_value d.accepted) v can.call (call_row can.running) s.launch.position x ≡ recorded_rows_if (arc_value d.accepted) v s x can.call (v.calls can.call)
        if_awaited v s there awaits =
            sym (ap (recorded_rows_if (arc_value d.accepted) v s x can.call) there ∙ ap (λ b. cond b (recorded_rows (arc_value d.accepted) v can.call (call_row can.running) s.launch.position x) v) awaits)

        view_then : (records2 : ℕ → Option ℕ) → records2 ≡ records_to to n (records_in (legs d.queues)) → (flights2 : ℕ → ℕ) → flights2 ≡ flights_to to (in_flight d.queues) (launch_of can.leg.content).server.0
            → record (core_view d) { rows = rows_of (calls_at calls3) (legs q2) (since_of d) d.next_call (d.next_leg + result.launched); records = records2; flights = flights2 } ≡ has_settled d n to x
        view_then records2 records_are flights2 flights_are =
            let s : LegRow = row_by state_of can.leg in
            let w2 : Rows = with_leg_row (core_view d).rows n (row_to to s) in
            let rows_are : rows_of (calls_at calls3) (legs q2) (since_of d) d.next_call (d.next_leg + result.launched) ≡ recorded_rows_for (arc_value d.accepted) w2 s x can.leg.content.call =
            rows_then ∙ if_awaited w2 s (ap (option_map call_row) can.there) can.awaited ∙ sym (ap (recorded_rows_for (arc_value d.accepted) w2 s x) can.own) in
            let there : (core_view d).rows.legs n ≡ Some s = ap (option_map (row_by state_of)) can.at in
            (λ j. record (core_view d) { rows = rows_are j; records = records_are j; flights = flights_are j }) ∙ sym (ap (settled_row (core_view d) n to x) there)

        pub view_settled : records_in (legs q2) ≡ records_in (legs q1) → ((m : ℕ) → in_flight q1 m ≡ cond (is_in_flight_to m (legs d.queues n)) (in_flight d.queues m - 1) (in_flight d.queues m)) → ((m : ℕ) → in_flight q2 m ≡ in_flight q1 m)
            → record (core_view d) { rows = rows_of (calls_at calls3) (legs q2) (since_of d) d.next_call (d.next_leg + result.launched); records = records_in (legs q2); flights = in_flight q2 } ≡ has_settled d n to x
        view_settled same_records left same_flights = view_then (records_in (legs q2)) (same_records ∙ ap records_in legs1_is ∙ SpoolNumbers.records_settled to (legs d.queues) n can.leg can.at) (in_flight q2) (flies_to d n can.leg can.at to can.flies (in_flight q2) (λ m. same_flights m ∙ left m))

-- ---- the same of the numbers that the code has found

pub owner_call : (d : Dispatcher) (n : ℕ) (to : Settling) (can : CanSettle d n to) (call : ℕ) → call ≡ unwrap_or (option_and_then (λ l. l.content.call) (legs d.queues n)) 0 → can.call ≡ call
owner_call d n to can call e = sym (e ∙ ap (λ o. unwrap_or (option_and_then (λ (l : Leg Errand). l.content.call) o) 0) can.at ∙ ap (λ o. unwrap_or o 0) can.own)

pub owner_entry : (d : Dispatcher) (n : ℕ) (to : Settling) (can : CanSettle d n to) (entry : ℕ) → entry ≡ unwrap_or (option_map (λ l. l.content.entry) (legs d.queues n)) 0 → can.leg.content.entry ≡ entry
owner_entry d n to can entry e = sym (e ∙ ap (λ o. unwrap_or (option_map (λ (l : Leg Errand). l.content.entry) o) 0) can.at)

pub code_can_note : (d : Dispatcher) (n : ℕ) (to : Settling) (can : CanSettle d n to) (q1 : Queues Errand) → legs q1 ≡ put (legs d.queues) n (settled_to to (legs d.queues n)) → room d.queues ≤ room q1 → servers q1 ≡ servers d.queues
    → (call entry : ℕ) → can.call ≡ call → can.leg.content.entry ≡ entry → CanNoteAt (calls_at d.calls) call entry (legs q1) (room q1) (servers q1) d.next_leg
code_can_note d n to can q1 legs_are wide known call entry call_is entry_is =
    subst (λ k. CanNoteAt (calls_at d.calls) k entry (legs q1) (room q1) (servers q1) d.next_leg) call_is
    (subst (λ e. CanNoteAt (calls_at d.calls) can.call e (legs q1) (room q1) (servers q1) d.next_leg) entry_is (can_note d n to can q1 legs_are wide known))

pub code_recorded : (d : Dispatcher) (n : ℕ) (to : Settling) (can : CanSettle d n to) (q1 : Queues Errand) (call entry : ℕ) → can.call ≡ call → can.leg.content.entry ≡ entry → (outcome taken : Part) (calls2 : ℕ → Option Call) (q2 : Queues Errand)
    (result : Recording) → ((c : Call) → calls_at d.calls call ≡ Some c → IsRecordedAt (calls_at d.calls) calls2 call c entry outcome taken d.next_leg (legs q1) (legs q2) result)
    → IsRecordedAt (calls_at d.calls) calls2 can.call can.running can.leg.content.entry outcome taken d.next_leg (legs q1) (legs q2) result
code_recorded d n to can q1 call entry call_is entry_is outcome taken calls2 q2 result raw =
    subst (λ k. IsRecordedAt (calls_at d.calls) calls2 k can.running can.leg.content.entry outcome taken d.next_leg (legs q1) (legs q2) result) (sym call_is)
    (subst (λ e. IsRecordedAt (calls_at d.calls) calls2 call can.running e outcome taken d.next_leg (legs q1) (legs q2) result) (sym entry_is) (raw can.running (ap (calls_at d.calls) (sym call_is) ∙ can.there)))

pub code_removed : (d : Dispatcher) (n : ℕ) (to : Settling) (can : CanSettle d n to) (call : ℕ) → can.call ≡ call → (calls2 calls3 : ℕ → Option Call) (ended : Bool) → calls3 ≡ cond ended (put calls2 call None) calls2
    → calls3 ≡ cond ended (put calls2 can.call None) calls2
code_removed d n to can call call_is calls2 calls3 ended e = e ∙ ap (λ k. cond ended (put calls2 k None) calls2) (sym call_is)
