-- What is read of legs.
use Rattle.std.proofs.Common.{◌≡◌, ℕ, Option, None, Some, Result, Ok, subst, sym}
use Rattle.std.specs.Prelude.{IfSome, option_map}
use Rattle.mcv_base.specs.declared.request.LegRequest.{LegRequest}
use Rattle.mcv_core.specs.Requests.{AskedOf, asked_by}
use Rattle.mcv_core.specs.View.{records_of}
use Rattle.mcv_core.specs.declared.fault.CoreFault.{CoreFault}
use Rattle.mcv_core.specs.declared.step.Change.TheVariants.{Performed}
use Rattle.mcv_core.specs.declared.step.Step.{Step}
use Rattle.mcv_hub.specs.State.{HubView}
use Rattle.mcv_turn.specs.Steps.{IsLanding, WasPerformed}
use Rattle.mcv_turn.specs.declared.arrival.Arrival.{Arrival}

-- a request that there is asks what the leg asks
pub request_is : (o : Option LegRequest) (asked : Option AskedOf) → option_map asked_by o ≡ asked → IfSome o (λ r. asked ≡ Some (asked_by r))
request_is None asked e = tt
request_is (Some r) asked e = sym e

-- the record of a leg that was performed
pub was_performed : (number : Option ℕ) (a : Arrival) (old new : HubView) (r : Result Step CoreFault)
    → records_of old.core a.leg.0 ≡ number → IsLanding a.server a.leg a.reply old new r → (step : Step) × (r ≡ Ok step) × (step.change ≡ Performed) → IfSome number (λ n. WasPerformed n a old new)
was_performed None a old new r stored landing p = tt
was_performed (Some n) a old new r stored landing p = record { stored = stored; step = p.0; landing = subst (λ (x : Result Step CoreFault). IsLanding a.server a.leg a.reply old new x) p.1 landing; performed = p.2 }
