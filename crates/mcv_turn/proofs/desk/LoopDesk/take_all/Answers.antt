use Rattle.mcv_turn.specs.Runs.{nothing}
use Rattle.mcv_turn.proofs.OpenRequests.{none_changes, still_open}
use Rattle.mcv_turn.proofs.Runs.{quiet}
use Rattle.mcv_turn.proofs.desk.LoopDesk.take_all.Goals as goal

pub loop-question-init : goal.loop-question-init
loop-question-init g c = record { run = nothing c.args.guard.now; same = none_changes c.args.self.now.questions c.look_where_overlooked.new.self.questions c.look_where_overlooked.ensures }

pub loop-question-preserved : goal.loop-question-preserved
loop-question-preserved g c = record {
  run = quiet c.args.guard.now c.loop-question.guard c.take.new.guard c.loop-question.invariant.run c.take.ensures.run;
  same = still_open c.args.self.now.questions c.loop-question.self.questions c.take.new.self.questions c.loop-question.invariant.same c.take.ensures.same;
}
