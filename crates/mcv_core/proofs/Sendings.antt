-- Legs that are sent, for the first time or from the spool.
use Rattle.std.proofs.Common.{◌≡◌, ◌&&◌, cond, ℕ, ◌+◌, Bool, true, false, nat_eq, Option, Some, None, option_map, refl, sym, ap, ◌∙◌, subst, true≢false}
use Rattle.std.proofs.Common.{Result, Ok, Err}
use Rattle.std.specs.Prelude.{IfErr, IfOk}
use Rattle.std.specs.Arc.{arc_value}
use Rattle.mcv_base.specs.declared.request.LegId.{LegId}
use Rattle.mcv_queues.specs.declared.fault.QueueFault.{QueueFault}
use Rattle.mcv_queues.specs.declared.fault.QueueFault.TheVariants as queue_faults
use Rattle.mcv_core.specs.declared.fault.CoreFault.{CoreFault}
use Rattle.mcv_core.specs.Fault.{queue_fault}
use Rattle.std.proofs.Math.Path.{fun_ext}
use Rattle.mcv_queues.specs.declared.leg.Leg.{Leg}
use Rattle.mcv_queues.specs.declared.leg.State.{State}
use Rattle.mcv_queues.specs.declared.leg.State.TheVariants as states
use Rattle.mcv_queues.specs.declared.queues.Queues.{Queues}
use Rattle.mcv_queues.specs.declared.roots.Group.TheVariants.{SpooledFor, WaitingFor}
use Rattle.mcv_queues.specs.Groups.{group_at, group_of, is_group, is_in}
use Rattle.mcv_queues.specs.Legs.{with_state}
use Rattle.mcv_queues.specs.Numbers.{IsLeast}
use Rattle.mcv_queues.specs.Queues.{in_flight, legs, room, servers}
use Rattle.mcv_events.specs.Rows.{IsCore, leg_state, with_leg_row, world_of}
use Rattle.mcv_events.specs.Events.{in_state}
use Rattle.mcv_events.proofs.EventsAreMoves.{states_are_no_moves}
use Rattle.mcv_core.specs.declared.dispatcher.Dispatcher.{Dispatcher}
use Rattle.mcv_core.specs.declared.errand.Errand.{Errand}
use Rattle.mcv_core.specs.CoreView.{CoreView, IsBusy, IsFree, Unmoved, in_row_state, is_spooled, is_waiting, with_flight}
use Rattle.mcv_core.specs.Events.{IsUnsent}
use Rattle.mcv_core.specs.Errands.{launch_of}
use Rattle.mcv_core.specs.Flights.{one_more}
use Rattle.mcv_core.specs.Rows.{row_by, state_of}
use Rattle.mcv_core.specs.View.{core_view}
use Rattle.mcv_core.proofs.FlightsStayWithin.{one_more_is}
use Rattle.mcv_core.proofs.LegViews

and_true : (b : Bool) → (b && true) ≡ b
and_true true = refl
and_true false = refl

and_false : (b : Bool) → (b && false) ≡ false
and_false true = refl
and_false false = refl

module _ (d : Dispatcher) (s : ℕ) where
  -- ---- which legs wait for a server

  waiting_leg : (n : ℕ) (o : Option (Leg Errand)) → legs d.queues n ≡ o → is_group (group_of o) (WaitingFor s) ≡ is_waiting s (option_map (row_by state_of) o)
  waiting_leg n None at = refl
  waiting_leg n (Some l) at = by_state l.state
    where
      same : nat_eq l.server.0 s ≡ nat_eq (launch_of l.content).server.0 s
      same = ap (λ v. nat_eq v.0 s) (d.sound.addressed n l at)

      by_state : (t : State) → is_group (group_at l.server.0 t) (WaitingFor s) ≡ is_waiting s (Some (record (row_by state_of l) { state = state_of t }))
      by_state states.Waiting = same ∙ sym (and_true (nat_eq (launch_of l.content).server.0 s))
      by_state states.Sent = sym (and_false (nat_eq (launch_of l.content).server.0 s))
      by_state states.Held = sym (and_false (nat_eq (launch_of l.content).server.0 s))
      by_state states.Refused = sym (and_false (nat_eq (launch_of l.content).server.0 s))
      by_state states.InSpool = sym (and_false (nat_eq (launch_of l.content).server.0 s))
      by_state states.InReplay = sym (and_false (nat_eq (launch_of l.content).server.0 s))

  pub least_waiting : (b : Option ℕ) → IsLeast (is_in (legs d.queues) (WaitingFor s)) b → IsLeast (λ n. is_waiting s ((core_view d).rows.legs n)) b
  least_waiting b h = subst (λ w. IsLeast w b) (fun_ext (λ n. waiting_leg n (legs d.queues n) refl)) h

  -- ---- which are in the spool for it, and not in flight

  spooled_leg : (n : ℕ) (o : Option (Leg Errand)) → legs d.queues n ≡ o → is_group (group_of o) (SpooledFor s) ≡ is_spooled s (option_map (row_by state_of) o)
  spooled_leg n None at = refl
  spooled_leg n (Some l) at = by_state l.state
    where
      same : nat_eq l.server.0 s ≡ nat_eq (launch_of l.content).server.0 s
      same = ap (λ v. nat_eq v.0 s) (d.sound.addressed n l at)

      by_state : (t : State) → is_group (group_at l.server.0 t) (SpooledFor s) ≡ is_spooled s (Some (record (row_by state_of l) { state = state_of t }))
      by_state states.Waiting = sym (and_false (nat_eq (launch_of l.content).server.0 s))
      by_state states.Sent = sym (and_false (nat_eq (launch_of l.content).server.0 s))
      by_state states.Held = sym (and_false (nat_eq (launch_of l.content).server.0 s))
      by_state states.Refused = sym (and_false (nat_eq (launch_of l.content).server.0 s))
      by_state states.InSpool = same ∙ sym (and_true (nat_eq (launch_of l.content).server.0 s))
      by_state states.InReplay = sym (and_false (nat_eq (launch_of l.content).server.0 s))

  pub least_spooled : (b : Option ℕ) → IsLeast (is_in (legs d.queues) (SpooledFor s)) b → IsLeast (λ n. is_spooled s ((core_view d).rows.legs n)) b
  least_spooled b h = subst (λ w. IsLeast w b) (fun_ext (λ n. spooled_leg n (legs d.queues n) refl)) h

  -- ---- the leg that is sent

  pub record IsIn (n : ℕ) (t : State) : Type 0 where
    pub leg : Leg Errand
    pub at : legs d.queues n ≡ Some leg
    pub is : leg.state ≡ t

  waiting_there : (n : ℕ) (o : Option (Leg Errand)) → legs d.queues n ≡ o → is_group (group_of o) (WaitingFor s) ≡ true → IsIn n states.Waiting
  waiting_there n None at e = absurd (true≢false (sym e))
  waiting_there n (Some l) at e = record { leg = l; at = at; is = by_state l.state e }
    where
      by_state : (t : State) → is_group (group_at l.server.0 t) (WaitingFor s) ≡ true → t ≡ states.Waiting
      by_state states.Waiting e = refl
      by_state states.Sent e = absurd (true≢false (sym e))
      by_state states.Held e = absurd (true≢false (sym e))
      by_state states.Refused e = absurd (true≢false (sym e))
      by_state states.InSpool e = absurd (true≢false (sym e))
      by_state states.InReplay e = absurd (true≢false (sym e))

  pub first_waits : (n : ℕ) → IsLeast (is_in (legs d.queues) (WaitingFor s)) (Some n) → IsIn n states.Waiting
  first_waits n h = waiting_there n (legs d.queues n) refl (h.there n refl)

  spooled_there : (n : ℕ) (o : Option (Leg Errand)) → legs d.queues n ≡ o → is_group (group_of o) (SpooledFor s) ≡ true → IsIn n states.InSpool
  spooled_there n None at e = absurd (true≢false (sym e))
  spooled_there n (Some l) at e = record { leg = l; at = at; is = by_state l.state e }
    where
      by_state : (t : State) → is_group (group_at l.server.0 t) (SpooledFor s) ≡ true → t ≡ states.InSpool
      by_state states.Waiting e = absurd (true≢false (sym e))
      by_state states.Sent e = absurd (true≢false (sym e))
      by_state states.Held e = absurd (true≢false (sym e))
      by_state states.Refused e = absurd (true≢false (sym e))
      by_state states.InSpool e = refl
      by_state states.InReplay e = absurd (true≢false (sym e))

  pub first_spooled : (n : ℕ) → IsLeast (is_in (legs d.queues) (SpooledFor s)) (Some n) → IsIn n states.InSpool
  first_spooled n h = spooled_there n (legs d.queues n) refl (h.there n refl)

  -- ---- what becomes of the view

  module _ (n : ℕ) (q : Queues Errand) (flights : (m : ℕ) → in_flight q m ≡ cond (nat_eq s m) (in_flight d.queues s + 1) (in_flight d.queues m)) where
    flights_are : in_flight q ≡ one_more (in_flight d.queues) s
    flights_are = one_more_is (in_flight d.queues) (in_flight q) s flights

    sent_rows : (t : State) (h : (l : Leg Errand) × (legs d.queues n ≡ Some l)) → legs q ≡ with_state (legs d.queues) n t → (LegViews.view_with d q).rows ≡ in_row_state (core_view d).rows n (state_of t)
    sent_rows t h is = LegViews.state_rows d n h.0 h.1 t q is ∙ ap (λ o. with_leg_row (core_view d).rows n (option_map (λ z. in_state z (state_of t)) o)) (sym (LegViews.there d n h.0 h.1))

    pub sent_view : (from t : State) (h : IsIn n from) → legs q ≡ with_state (legs d.queues) n t → LegViews.view_with d q ≡ with_flight (record (core_view d) { rows = in_row_state (core_view d).rows n (state_of t) }) s
    sent_view from t h is = λ j. record (core_view d) { rows = sent_rows t (h.leg, h.at) is j; records = LegViews.records_stay d n h.leg h.at t q is j; flights = flights_are j }

    pub sent_does : (from t : State) (h : IsIn n from) → leg_state (state_of t) ≡ leg_state (state_of from) → legs q ≡ with_state (legs d.queues) n t → IsCore (arc_value d.accepted) (LegViews.view_with d q).rows
        → Unmoved (core_view d) (LegViews.view_with d q)
    sent_does from t h same is core = record {
      world = ap world_of (LegViews.state_rows d n h.leg h.at t q is)
          ∙ states_are_no_moves (core_view d).rows n (row_by state_of h.leg) (state_of t) (LegViews.there d n h.leg h.at) (same ∙ sym (ap (λ v. leg_state (state_of v)) h.is));
      core = core;
      routes = refl;
    }

-- ---- what holds of the dispatcher, sent or refused

pub next_sound : (d : Dispatcher) (s : ℕ) (result : Result LegId QueueFault) (q : Queues Errand) → IfOk result (λ leg. IsLeast (is_in (legs d.queues) (WaitingFor s)) (Some leg.0)) → IfOk result (λ leg. legs q ≡ with_state (legs d.queues) leg.0 states.Sent)
    → IfErr result (λ fault. q ≡ d.queues) → room q ≡ room d.queues → servers q ≡ servers d.queues → LegViews.IsSoundWith d q d.counts.queued d.counts.spooled
next_sound d s (Ok leg) q first sent same room_is known = let h = first_waits d s leg.0 first in LegViews.sound_sent d leg.0 h.leg h.at h.is q sent room_is known
next_sound d s (Err fault) q first sent same room_is known = subst (λ v. LegViews.IsSoundWith d v d.counts.queued d.counts.spooled) (sym same) d.sound

pub replay_sound : (d : Dispatcher) (s : ℕ) (result : Result LegId QueueFault) (q : Queues Errand) → IfOk result (λ leg. IsLeast (is_in (legs d.queues) (SpooledFor s)) (Some leg.0)) → IfOk result (λ leg. legs q ≡ with_state (legs d.queues) leg.0 states.InReplay)
    → IfErr result (λ fault. q ≡ d.queues) → room q ≡ room d.queues → servers q ≡ servers d.queues → LegViews.IsSoundWith d q d.counts.queued d.counts.spooled
replay_sound d s (Ok leg) q first sent same room_is known = let h = first_spooled d s leg.0 first in LegViews.sound_replayed d leg.0 h.leg h.at h.is q sent room_is known
replay_sound d s (Err fault) q first sent same room_is known = subst (λ v. LegViews.IsSoundWith d v d.counts.queued d.counts.spooled) (sym same) d.sound

-- why no leg is sent
pub unsent : (v : CoreView) (server : ℕ) (First : ℕ → CoreView → Option ℕ → Type 0) (fault : QueueFault) (f : CoreFault) → f ≡ queue_fault fault → (fault ≡ queue_faults.Busy → IsBusy v server)
    → (fault ≡ queue_faults.NothingWaiting → IsFree v server × First server v None) → IsUnsent v server First f
unsent v server First queue_faults.Busy f e busy nothing = subst (IsUnsent v server First) (sym e) (busy refl)
unsent v server First queue_faults.NothingWaiting f e busy nothing = subst (IsUnsent v server First) (sym e) (nothing refl)
