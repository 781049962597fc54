use Rattle.std.proofs.Common.{◌≡◌, take}
use Rattle.mcv_witness.specs.Finding.{outcomes_of}
use Rattle.mcv_symbolic.specs.ShownAnswers.{history_of}
use Rattle.mcv_make.proofs.scene.copied.Given as goal

abbrev pub invariant-loop-answer : goal.invariant-loop-answer
invariant-loop-answer l = outcomes_of l.legs.items ≡ history_of (take l.answer-index l.answers)
