use Rattle.mcv_turn.specs.Runs.{nothing, refused}
use Rattle.mcv_turn.proofs.Runs.{quiet}
use Rattle.mcv_turn.proofs.notes.Notes.hold.Goals as goal

pub loop-leg-init : goal.loop-leg-init
loop-leg-init g c = nothing c.args.guard.now

pub loop-leg-preserved : goal.loop-leg-preserved
loop-leg-preserved g c = quiet c.args.guard.now c.loop-leg.guard c.spool_refused.new.self c.loop-leg.invariant (refused c.loop-leg.guard c.spool_refused.new.self _ c.spool_refused.result c.spool_refused.ensures)

pub returns-then-not-is_first_refusal : goal.returns-then-not-is_first_refusal
returns-then-not-is_first_refusal g c = quiet c.args.guard.now c.loop-leg.guard c.spool_refused.new.self c.loop-leg.invariant (refused c.loop-leg.guard c.spool_refused.new.self _ c.spool_refused.result c.spool_refused.ensures)
