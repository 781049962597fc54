use Rattle.std.proofs.Common.{◌≡◌, ◌++◌, take}
use Rattle.mcv_explain.specs.Explanation.{leg_lines}
use Rattle.mcv_explain.specs.Scene.{scene_of}
use Rattle.mcv_witness.specs.Finding.{outcomes_of}
use Rattle.mcv_explain.proofs.sentences.push_legs.Given as goal

abbrev pub invariant-loop-leg : goal.invariant-loop-leg
invariant-loop-leg l = l.text.items ≡ l.fn.text.items ++ leg_lines (scene_of l.scene) l.op (outcomes_of (take l.leg-index l.legs))
