use Rattle.std.proofs.Common.{◌≡◌, false, Some, rules, subst}
use Rattle.mcv_core.specs.Requests.{asked_at, asked_by}
use Rattle.mcv_core.specs.declared.dispatcher.Dispatcher.{Dispatcher}
use Rattle.mcv_turn.specs.Flights.{is_marked}
use Rattle.mcv_turn.proofs.sending.flight_of.Goals as goal

pub invariant_of-flight : goal.invariant_of-flight
invariant_of-flight g c =
    let unmarked : is_marked c.args.guard.now c.args.server ≡ false = search rules in
    let P : Dispatcher → Type 0 = λ d. asked_at d c.args.leg.0 ≡ Some (asked_by c.in-Some.request) in
    record { may_be_sent = ∣ record { state = c.args.guard.now; came = c.requires; unmarked = unmarked; asks = subst P c.core-2.ensures c.in-Some.ensures } ∣₁ }

pub returns-clause-asks : goal.returns-clause-asks
returns-clause-asks g c =
    let P : Dispatcher → Type 0 = λ d. asked_at d c.args.leg.0 ≡ Some (asked_by c.in-Some.request) in
    subst P c.core-2.ensures c.in-Some.ensures
