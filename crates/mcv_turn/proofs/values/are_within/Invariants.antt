use Rattle.std.proofs.Common.{◌≡◌, ◌+◌, take}
use Rattle.std.specs.Prelude.{sum_by}
use Rattle.mcv_turn.specs.Values.{value_bytes}
use Rattle.mcv_turn.proofs.values.are_within.Given as goal

abbrev pub invariant-loop-part : goal.invariant-loop-part
invariant-loop-part l = l.left + sum_by value_bytes (take l.part-index l.parts) ≡ l.most
