use Rattle.std.proofs.Common.{refl}
use Rattle.mcv_turn.specs.Runs.{nothing}
use Rattle.mcv_turn.proofs.OpenRequests.{none_changes, still_open}
use Rattle.mcv_turn.proofs.Runs.{quiet}
use Rattle.mcv_turn.proofs.desk.LoopDesk.enter.Goals as goal

pub loop-question-init : goal.loop-question-init
loop-question-init g c = record { run = nothing c.args.guard.now; same = none_changes c.args.self.now.questions c.args.self.now.questions refl }

pub loop-question-preserved : goal.loop-question-preserved
loop-question-preserved g c = record {
  run = quiet c.args.guard.now c.loop-question.guard c.begin.new.guard c.loop-question.invariant.run c.begin.ensures.run;
  same = still_open c.args.self.now.questions c.loop-question.self.questions c.begin.new.self.questions c.loop-question.invariant.same c.begin.ensures.same;
}

pub returns-then-not-is_open-clause-run : goal.returns-then-not-is_open-clause-run
returns-then-not-is_open-clause-run g c = nothing c.args.guard.now

pub returns-then-not-is_open-clause-same : goal.returns-then-not-is_open-clause-same
returns-then-not-is_open-clause-same g c = none_changes c.args.self.now.questions c.args.self.now.questions refl
