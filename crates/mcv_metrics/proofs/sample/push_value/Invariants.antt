use Rattle.std.proofs.Common.{◌≡◌, ◌++◌, take}
use Rattle.mcv_metrics.specs.Text.{label_value}
use Rattle.mcv_metrics.proofs.sample.push_value.Given as goal

abbrev pub invariant-loop-byte : goal.invariant-loop-byte
invariant-loop-byte l = l.text.items ≡ l.fn.text.items ++ label_value (take l.byte-index l.value)
