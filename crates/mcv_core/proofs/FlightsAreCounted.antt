-- How many legs are in flight to a server, or wait for it, is how many rows are or do.
use Rattle.std.proofs.Common.{◌≡◌, ◌&&◌, ℕ, nat_eq, Option, Some, None, option_map, refl, ap, ◌∙◌}
use Rattle.std.proofs.Math.Logic.{∥∥₁_map}
use Rattle.mcv_queues.specs.declared.leg.Leg.{Leg}
use Rattle.mcv_queues.specs.declared.leg.State.{State}
use Rattle.mcv_queues.specs.declared.leg.State.TheVariants as states
use Rattle.mcv_queues.specs.Flights as queues
use Rattle.mcv_queues.specs.Legs.{is_flight, is_in_flight_to, is_waiting, waits_for}
use Rattle.mcv_queues.specs.Queues.{in_flight, legs}
use Rattle.mcv_core.specs.declared.dispatcher.Dispatcher.{Dispatcher}
use Rattle.mcv_core.specs.declared.errand.Errand.{Errand}
use Rattle.mcv_core.specs.Errands.{launch_of}
use Rattle.mcv_core.specs.Flights.{AreInFlight, AreWaiting, flies_in, flies_to, waits_in, waits_to}
use Rattle.mcv_core.specs.Rows.{row_by, state_of}
use Rattle.mcv_core.specs.View.{core_view}

by_state : (t : State) → is_flight t ≡ flies_in (state_of t)
by_state states.Waiting = refl
by_state states.Sent = refl
by_state states.Held = refl
by_state states.Refused = refl
by_state states.InSpool = refl
by_state states.InReplay = refl

waiting_by_state : (t : State) → is_waiting t ≡ waits_in (state_of t)
waiting_by_state states.Waiting = refl
waiting_by_state states.Sent = refl
waiting_by_state states.Held = refl
waiting_by_state states.Refused = refl
waiting_by_state states.InSpool = refl
waiting_by_state states.InReplay = refl

module _ (d : Dispatcher) (server : ℕ) where
  by_row : (n : ℕ) (o : Option (Leg Errand)) → legs d.queues n ≡ o → is_in_flight_to server o ≡ flies_to server (option_map (row_by state_of) o)
  by_row n None at = refl
  by_row n (Some l) at = ap (λ v. nat_eq v.0 server && is_flight l.state) (d.sound.addressed n l at) ∙ ap (λ b. nat_eq (launch_of l.content).server.0 server && b) (by_state l.state)

  pub flights_are_counted : ∥ AreInFlight (core_view d).rows server (in_flight d.queues server) ∥₁
  flights_are_counted = ∥∥₁_map (d.queues.sound.flying server) (λ f. record { numbers = f.numbers; these = λ n. f.these n ∙ by_row n (legs d.queues n) refl; apart = f.apart; counted = f.counted })

  waiting_by_row : (n : ℕ) (o : Option (Leg Errand)) → legs d.queues n ≡ o → waits_for server o ≡ waits_to server (option_map (row_by state_of) o)
  waiting_by_row n None at = refl
  waiting_by_row n (Some l) at = ap (λ v. nat_eq v.0 server && is_waiting l.state) (d.sound.addressed n l at) ∙ ap (λ b. nat_eq (launch_of l.content).server.0 server && b) (waiting_by_state l.state)

  pub waiting_are_counted : (count : ℕ) → ∥ queues.AreWaiting (legs d.queues) server count ∥₁ → ∥ AreWaiting (core_view d).rows server count ∥₁
  waiting_are_counted count counted = ∥∥₁_map counted (λ f. record { numbers = f.numbers; these = λ n. f.these n ∙ waiting_by_row n (legs d.queues n) refl; apart = f.apart; counted = f.counted })
