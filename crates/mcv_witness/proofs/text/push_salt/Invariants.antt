use Rattle.std.proofs.Common.{◌≡◌, ◌++◌, take}
use Rattle.std.specs.List.{flat_map}
use Rattle.mcv_witness.specs.Text.{salt_byte}
use Rattle.mcv_witness.proofs.text.push_salt.Given as goal

abbrev pub invariant-loop-byte : goal.invariant-loop-byte
invariant-loop-byte l = l.text.items ≡ l.fn.text.items ++ flat_map salt_byte (take l.byte-index l.salt)
