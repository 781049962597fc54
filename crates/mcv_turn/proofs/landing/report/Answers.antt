use Rattle.std.proofs.Common.{◌≡◌, ℕ, Option, refl, subst, sym}
use Rattle.mcv_core.specs.View.{records_of}
use Rattle.mcv_core.specs.declared.dispatcher.Dispatcher.{Dispatcher}
use Rattle.mcv_turn.proofs.Legs.{was_performed}
use Rattle.mcv_turn.proofs.landing.report.Goals as goal

pub returns-then-not-has_performed-clause-reported : goal.returns-then-not-has_performed-clause-reported
returns-then-not-has_performed-clause-reported g c = record { result = c.land-landed.result; landing = c.land-landed.ensures }

pub returns-clause-reported : goal.returns-clause-reported
returns-clause-reported g c = record { result = c.land-landed.result; landing = c.land-landed.ensures }

pub returns-clause-performed : goal.returns-clause-performed
returns-clause-performed g c =
    let P : Dispatcher → Type 0 = λ d. records_of d c.args.arrival.leg.0 ≡ c.record-number.result in
    was_performed c.record-number.result c.args.arrival c.args.guard.now c.land-landed.new.guard c.land-landed.result (subst P c.core.ensures (sym c.record-number.ensures)) c.land-landed.ensures
    (c.has_performed.ensures c.if-not-has_performed.false)
