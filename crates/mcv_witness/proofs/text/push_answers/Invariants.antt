use Rattle.std.proofs.Common.{◌≡◌, ◌++◌, take}
use Rattle.std.specs.Prelude.{codes}
use Rattle.std.specs.List.{flat_map}
use Rattle.mcv_witness.specs.Finding.{outcomes_of}
use Rattle.mcv_witness.specs.Text.{answer_text}
use Rattle.mcv_witness.proofs.text.push_answers.Given as goal

abbrev pub invariant-loop-leg : goal.invariant-loop-leg
invariant-loop-leg l = l.text.items ≡ l.initial.text.items ++ flat_map (λ x. codes " " ++ answer_text l.op x) (outcomes_of (take l.leg-index l.others))
