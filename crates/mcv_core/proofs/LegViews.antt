-- What becomes of the dispatcher and its view where a leg changes its state, or goes.
use Rattle.std.proofs.Common.{◌≡◌, ◌&&◌, cond, inl, inr, ℕ, ◌+◌, ◌-◌, ◌<◌, ◌≤◌, ◌^◌, Bool, true, false, nat_eq, Option, Some, None, option_map, refl, sym, ap, ◌∙◌, subst, arith, true≢false}
use Rattle.std.specs.Arc.{arc_value}
use Rattle.std.proofs.Math.Path.{fun_ext}
use Rattle.std.proofs.lemmas.Bool.{cases_eq}
use Rattle.mcv_queues.specs.declared.leg.Leg.{Leg}
use Rattle.mcv_queues.specs.declared.leg.State.{State}
use Rattle.mcv_queues.specs.declared.leg.State.TheVariants as states
use Rattle.mcv_queues.specs.declared.queues.Queues.{Queues}
use Rattle.mcv_queues.specs.Legs.{in_state as put_state, is_flight, is_in_flight_to, stored_as, with_state, with_stored}
use Rattle.mcv_queues.specs.Queues.{in_flight, legs, room, servers}
use Rattle.mcv_world.specs.World.{is_counted_delete, put}
use Rattle.mcv_world.proofs.Numbers.{put_same, put_other}
use Rattle.mcv_events.specs.QueuedLegs.{count_in}
use Rattle.mcv_events.specs.Rows as rows
use Rattle.mcv_events.specs.Rows.{LegRow, Rows, is_unanswered, leg_of, with_leg_row}
use Rattle.mcv_events.specs.Events.{in_state}
use Rattle.mcv_core.specs.declared.counts.Counts.{Counts}
use Rattle.mcv_core.specs.declared.dispatcher.Dispatcher.{Dispatcher}
use Rattle.mcv_core.specs.declared.errand.Errand.{Errand}
use Rattle.mcv_core.specs.Calls.{calls_at}
use Rattle.mcv_core.specs.CoreView.{CoreView, landed}
use Rattle.mcv_core.specs.Flights.{one_less}
use Rattle.mcv_core.specs.Errands.{launch_of}
use Rattle.mcv_core.specs.Facts.{records_in}
use Rattle.mcv_core.specs.Rows.{awaiting_state, row_by, rows_of, state_of}
use Rattle.mcv_core.specs.Soundness.{spooled_in, IsSound}
use Rattle.mcv_core.specs.View.{core_view, since_of}
use Rattle.mcv_core.proofs.SpoolNumbers
use Rattle.mcv_core.proofs.States

and_true : (b : Bool) → (b && true) ≡ b
and_true true = refl
and_true false = refl

and_false : (b : Bool) → (b && false) ≡ false
and_false true = refl
and_false false = refl

-- the dispatcher's view with other queues
abbrev pub view_with : Dispatcher → Queues Errand → CoreView
view_with d q = record (core_view d) { rows = rows_of (calls_at d.calls) (legs q) (since_of d) d.next_call d.next_leg; records = records_in (legs q); flights = in_flight q }

abbrev pub IsSoundWith : Dispatcher → Queues Errand → (queued spooled : ℕ) → Type 0
IsSoundWith d q queued spooled = IsSound (arc_value d.accepted) (calls_at d.calls) (legs q) (since_of d) d.moment.0 d.next_call d.next_leg d.counts.reserved queued spooled d.counts.running (room q) (servers q)

abbrev pub IsSoundBy : Dispatcher → Queues Errand → Counts → Type 0
IsSoundBy d q counts = IsSound (arc_value d.accepted) (calls_at d.calls) (legs q) (since_of d) d.moment.0 d.next_call d.next_leg counts.reserved counts.queued counts.spooled counts.running (room q) (servers q)

module _ (d : Dispatcher) (n : ℕ) (l : Leg Errand) (at : legs d.queues n ≡ Some l) where
  abbrev pub its_row : LegRow
  its_row = row_by state_of l

  pub there : (core_view d).rows.legs n ≡ Some its_row
  there = ap (option_map (row_by state_of)) at

  pub server_is : l.server ≡ (launch_of l.content).server
  server_is = d.sound.addressed n l at

  -- ---- flights

  pub flights_landed : is_flight l.state ≡ true → (flights2 : ℕ → ℕ) → ((m : ℕ) → flights2 m ≡ cond (is_in_flight_to m (legs d.queues n)) (in_flight d.queues m - 1) (in_flight d.queues m))
      → flights2 ≡ one_less (in_flight d.queues) (launch_of l.content).server.0
  flights_landed flies flights2 e =
      fun_ext (λ m. e m ∙ ap (λ o. cond (is_in_flight_to m o) (in_flight d.queues m - 1) (in_flight d.queues m)) at ∙ ap (λ b. cond (nat_eq l.server.0 m && b) (in_flight d.queues m - 1) (in_flight d.queues m)) flies
      ∙ ap (λ b. cond b (in_flight d.queues m - 1) (in_flight d.queues m)) (and_true (nat_eq l.server.0 m)) ∙ ap (λ v. cond (nat_eq v.0 m) (in_flight d.queues m - 1) (in_flight d.queues m)) server_is)

  pub flights_stay : is_flight l.state ≡ false → (flights2 : ℕ → ℕ) → ((m : ℕ) → flights2 m ≡ cond (is_in_flight_to m (legs d.queues n)) (in_flight d.queues m - 1) (in_flight d.queues m))
      → flights2 ≡ in_flight d.queues
  flights_stay flies flights2 e =
      fun_ext (λ m. e m ∙ ap (λ o. cond (is_in_flight_to m o) (in_flight d.queues m - 1) (in_flight d.queues m)) at ∙ ap (λ b. cond (nat_eq l.server.0 m && b) (in_flight d.queues m - 1) (in_flight d.queues m)) flies
      ∙ ap (λ b. cond b (in_flight d.queues m - 1) (in_flight d.queues m)) (and_false (nat_eq l.server.0 m)))

  -- ---- a state changes

  pub state_rows : (t : State) (q : Queues Errand) → legs q ≡ with_state (legs d.queues) n t → (view_with d q).rows ≡ with_leg_row (core_view d).rows n (Some (row_by state_of (put_state t l)))
  state_rows t q is = States.rows_put state_of (calls_at d.calls) (legs d.queues) (legs q) (since_of d) d.next_call d.next_leg n (Some (put_state t l)) (is ∙ States.state_put (legs d.queues) n l t at)

  pub stored_rows : (seq : ℕ) (q : Queues Errand) → legs q ≡ with_stored (legs d.queues) n seq → (view_with d q).rows ≡ with_leg_row (core_view d).rows n (Some (row_by state_of (stored_as seq l)))
  stored_rows seq q is = States.rows_put state_of (calls_at d.calls) (legs d.queues) (legs q) (since_of d) d.next_call d.next_leg n (Some (stored_as seq l)) (is ∙ States.stored_put (legs d.queues) n seq l at)

  pub gone_rows : (q : Queues Errand) → legs q ≡ put (legs d.queues) n None → (view_with d q).rows ≡ with_leg_row (core_view d).rows n None
  gone_rows q is = States.rows_put state_of (calls_at d.calls) (legs d.queues) (legs q) (since_of d) d.next_call d.next_leg n None is

  -- it keeps its record
  pub records_stay : (t : State) (q : Queues Errand) → legs q ≡ with_state (legs d.queues) n t → records_in (legs q) ≡ records_in (legs d.queues)
  records_stay t q is = ap records_in is ∙ SpoolNumbers.records_kept (legs d.queues) n t

  pub held_view : (q : Queues Errand) → legs q ≡ with_state (legs d.queues) n states.Held → is_flight l.state ≡ true → ((m : ℕ) → in_flight q m ≡ cond (is_in_flight_to m (legs d.queues n)) (in_flight d.queues m - 1) (in_flight d.queues m))
      → view_with d q ≡ record (landed (core_view d) its_row) { rows = with_leg_row (core_view d).rows n (Some (in_state its_row rows.Held)) }
  held_view q is flies e = λ j. record (core_view d) { rows = state_rows states.Held q is j; records = records_stay states.Held q is j; flights = flights_landed flies (in_flight q) e j }

  pub gone_view : (q : Queues Errand) → legs q ≡ put (legs d.queues) n None → is_flight l.state ≡ true → ((m : ℕ) → in_flight q m ≡ cond (is_in_flight_to m (legs d.queues n)) (in_flight d.queues m - 1) (in_flight d.queues m))
      → view_with d q ≡ record (landed (core_view d) its_row) { rows = with_leg_row (core_view d).rows n None; records = put (core_view d).records n None }
  gone_view q is flies e = λ j. record (core_view d) { rows = gone_rows q is j; records = (ap records_in is ∙ SpoolNumbers.records_put (legs d.queues) n None) j; flights = flights_landed flies (in_flight q) e j }

  -- its row stays as it was
  pub row_stays : (s : LegRow) → (core_view d).rows.legs n ≡ Some s → with_leg_row (core_view d).rows n (Some s) ≡ (core_view d).rows
  row_stays s e = λ j. record (core_view d).rows { legs = fun_ext (λ m. put_again (core_view d).rows.legs n m s e) j }
    where
      put_again : (f : ℕ → Option LegRow) (k m : ℕ) (s2 : LegRow) → f k ≡ Some s2 → put f k (Some s2) m ≡ f m
      put_again f k m s2 here = elim (cases_eq k m) [
        | inl q ↦ subst (λ v. put f k (Some s2) v ≡ f v) q (put_same f k (Some s2) ∙ sym here)
        | inr ne ↦ put_other f k m (Some s2) ne
      ]

  pub waits_view : (q : Queues Errand) → legs q ≡ with_state (legs d.queues) n states.InSpool → is_flight l.state ≡ true
      → ((m : ℕ) → in_flight q m ≡ cond (is_in_flight_to m (legs d.queues n)) (in_flight d.queues m - 1) (in_flight d.queues m))
      → view_with d q ≡ record (landed (core_view d) its_row) { rows = with_leg_row (core_view d).rows n (Some (in_state its_row rows.InSpool)) }
  waits_view q is flies e = λ j. record (core_view d) { rows = state_rows states.InSpool q is j; records = records_stay states.InSpool q is j; flights = flights_landed flies (in_flight q) e j }

  -- ---- what holds of the dispatcher

  counted_of : is_unanswered (state_of l.state) ≡ false → is_counted_delete (leg_of its_row) ≡ true
  counted_of e = d.sound.core.counted n its_row there e

  abbrev Alters : State → Type 0
  Alters t = (q : Queues Errand) → legs q ≡ with_state (legs d.queues) n t → room q ≡ room d.queues → servers q ≡ servers d.queues → IsSoundWith d q d.counts.queued d.counts.spooled

  alters : (from t : State) → l.state ≡ from → States.CanChange state_of l t → States.CanChange awaiting_state l t → (awaiting_state t ≡ rows.Held → ⊥) → count_in (state_of from) ≡ count_in (state_of t)
      → spooled_in (state_of from) ≡ spooled_in (state_of t) → Alters t
  alters from t from_is can can_await never count stored q is room_is known =
      States.changed (arc_value d.accepted) (calls_at d.calls) (legs d.queues) (since_of d) d.moment.0 d.next_call d.next_leg d.counts.reserved d.counts.queued d.counts.spooled d.counts.running (room d.queues)
      (servers d.queues) d.sound n l at t l.«record» can can_await (λ e. absurd (never e)) (legs q) (is ∙ States.state_put (legs d.queues) n l t at) d.counts.queued d.counts.spooled (room q) (servers q)
      (ap (λ v. d.counts.queued + v) (ap (λ v. count_in (state_of v)) from_is ∙ count)) d.sound.limit
      (ap (λ v. d.counts.spooled + v) (ap (λ v. spooled_in (state_of v)) from_is ∙ stored)) (omega (arith, room_is)) known

  -- a counted delete leg is held
  pub sound_held : is_counted_delete (leg_of its_row) ≡ true → l.state ≡ states.Sent → Alters states.Held
  sound_held counted sent =
      alters states.Sent states.Held sent (record { opens = λ e. absurd (true≢false (sym e)); shuts = λ e. counted }) (record { opens = λ e. ap (λ v. is_unanswered (awaiting_state v)) sent; shuts = λ e. absurd (true≢false e) })
      (λ e. cc) refl refl

  -- a leg in replay waits in the spool again
  pub sound_failed : l.state ≡ states.InReplay → Alters states.InSpool
  sound_failed replayed =
      let counted = counted_of (ap (λ v. is_unanswered (state_of v)) replayed) in
      alters states.InReplay states.InSpool replayed (record { opens = λ e. absurd (true≢false (sym e)); shuts = λ e. counted }) (record { opens = λ e. absurd (true≢false (sym e)); shuts = λ e. counted }) (λ e. cc) refl refl

  -- a waiting leg is sent
  pub sound_sent : l.state ≡ states.Waiting → Alters states.Sent
  sound_sent waits =
      alters states.Waiting states.Sent waits (record { opens = λ e. ap (λ v. is_unanswered (state_of v)) waits; shuts = λ e. absurd (true≢false e) })
      (record { opens = λ e. ap (λ v. is_unanswered (awaiting_state v)) waits; shuts = λ e. absurd (true≢false e) }) (λ e. cc) refl refl

  -- a leg in the spool is sent again
  pub sound_replayed : l.state ≡ states.InSpool → Alters states.InReplay
  sound_replayed spooled =
      let counted = counted_of (ap (λ v. is_unanswered (state_of v)) spooled) in
      alters states.InSpool states.InReplay spooled (record { opens = λ e. absurd (true≢false (sym e)); shuts = λ e. counted }) (record { opens = λ e. absurd (true≢false (sym e)); shuts = λ e. counted }) (λ e. cc) refl refl

  -- a leg that the spool had refused is stored
  pub sound_stored : l.state ≡ states.Refused → (seq : ℕ) (q : Queues Errand) → legs q ≡ with_stored (legs d.queues) n seq → room q ≡ room d.queues → servers q ≡ servers d.queues
      → (queued : ℕ) → queued + 1 ≡ d.counts.queued → IsSoundWith d q queued (d.counts.spooled + 1)
  sound_stored refused seq q is room_is known queued less =
      let counted = counted_of (ap (λ v. is_unanswered (state_of v)) refused) in
      let was : count_in (state_of l.state) ≡ 1 = ap (λ v. count_in (state_of v)) refused in
      let unstored : spooled_in (state_of l.state) ≡ 0 = ap (λ v. spooled_in (state_of v)) refused in
      let limit = d.sound.limit in
      States.changed (arc_value d.accepted) (calls_at d.calls) (legs d.queues) (since_of d) d.moment.0 d.next_call d.next_leg d.counts.reserved d.counts.queued d.counts.spooled d.counts.running (room d.queues)
      (servers d.queues) d.sound n l at states.InSpool (Some seq) (record { opens = λ e. absurd (true≢false (sym e)); shuts = λ e. counted }) (record { opens = λ e. absurd (true≢false (sym e)); shuts = λ e. counted })
      (λ e. absurd (cc)) (legs q) (is ∙ States.stored_put (legs d.queues) n seq l at) queued (d.counts.spooled + 1) (room q) (servers q) (omega (arith, was, less)) (omega (arith, limit, less)) (omega (arith, unstored)) (omega (arith, room_is)) known

  -- a leg in replay is performed
  pub sound_gone : l.state ≡ states.InReplay → (q : Queues Errand) → legs q ≡ put (legs d.queues) n None → room d.queues ≤ room q → servers q ≡ servers d.queues
      → (spooled : ℕ) → spooled + 1 ≡ d.counts.spooled → IsSoundWith d q d.counts.queued spooled
  sound_gone replayed q is wide known spooled less =
      States.gone (arc_value d.accepted) (calls_at d.calls) (legs d.queues) (since_of d) d.moment.0 d.next_call d.next_leg d.counts.reserved d.counts.queued d.counts.spooled d.counts.running (room d.queues)
      (servers d.queues) d.sound n l at (ap state_of replayed) (legs q) is spooled less (room q) (servers q) wide known

  -- so many are in the spool
  pub some_spooled : l.state ≡ states.InReplay → 1 ≤ d.counts.spooled
  some_spooled replayed =
      States.one_spooled (arc_value d.accepted) (calls_at d.calls) (legs d.queues) (since_of d) d.moment.0 d.next_call d.next_leg d.counts.reserved d.counts.queued d.counts.spooled d.counts.running (room d.queues)
      (servers d.queues) d.sound n l at (ap state_of replayed)

  pub some_queued : count_in (state_of l.state) ≡ 1 → 1 ≤ d.counts.queued
  some_queued counted =
      States.one_queued (arc_value d.accepted) (calls_at d.calls) (legs d.queues) (since_of d) d.moment.0 d.next_call d.next_leg d.counts.reserved d.counts.queued d.counts.spooled d.counts.running (room d.queues)
      (servers d.queues) d.sound n l at counted

  -- one more can be in the spool
  pub spool_fits : spooled_in (state_of l.state) ≡ 0 → d.counts.spooled + 1 < 2 ^ 64
  spool_fits none =
      let below = States.more_spooled (arc_value d.accepted) (calls_at d.calls) (legs d.queues) (since_of d) d.moment.0 d.next_call d.next_leg d.counts.reserved d.counts.queued d.counts.spooled d.counts.running (room d.queues)
      (servers d.queues) d.sound n l at none in
      let numbers = d.sound.numbers in
      omega (arith, below, numbers)
