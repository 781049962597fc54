use Rattle.std.proofs.Common.{[]}
use Rattle.mcv_turn.specs.OpenRequests.{AreSameOpen}
use Rattle.mcv_turn.specs.Runs.{Runs}
use Rattle.mcv_turn.proofs.desk.LoopDesk.take_all.Given as goal

abbrev pub invariant-loop-question : goal.invariant-loop-question
invariant-loop-question g l = record { run : Runs l.fn.guard [] [] l.guard; same : AreSameOpen l.fn.self.questions l.self.questions }
