use Rattle.mcv_turn.specs.Runs.{nothing, unmarked}
use Rattle.mcv_turn.proofs.Runs.{quiet}
use Rattle.mcv_turn.proofs.notes.Notes.unmark_all.Goals as goal

pub loop-server-init : goal.loop-server-init
loop-server-init g c = nothing c.args.guard.now

pub loop-server-preserved : goal.loop-server-preserved
loop-server-preserved g c = quiet c.args.guard.now c.loop-server.guard c.unmark.new.self c.loop-server.invariant (unmarked c.loop-server.guard c.unmark.new.self _ c.unmark.ensures)
