use Rattle.mcv_turn.specs.Runs.{nothing}
use Rattle.mcv_turn.proofs.Runs.{settled}
use Rattle.mcv_turn.proofs.notes.Notes.settle.Goals as goal

pub returns-in_default : goal.returns-in_default
returns-in_default g c = nothing c.args.guard.now

pub returns : goal.returns
returns g c = settled c.args.guard.now c.settle.new.guard c.in-Some.field-0.leg c.in-Some.field-0.outcome c.settle.result c.settle.ensures.stored c.settle.ensures.refused
