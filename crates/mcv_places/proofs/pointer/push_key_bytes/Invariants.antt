use Rattle.std.proofs.Common.{◌≡◌, ◌++◌, take}
use Rattle.std.specs.List.{flat_map}
use Rattle.mcv_places.specs.Pointer.{pointer_byte}
use Rattle.mcv_places.proofs.pointer.push_key_bytes.Given as goal

abbrev pub invariant-loop-byte : goal.invariant-loop-byte
invariant-loop-byte l = l.pointer.items ≡ l.fn.pointer.items ++ flat_map pointer_byte (take l.byte-index l.key)
