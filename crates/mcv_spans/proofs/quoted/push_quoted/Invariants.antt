use Rattle.std.proofs.Common.{◌≡◌, ◌∷◌, ◌++◌, take, flat_map}
use Rattle.mcv_spans.specs.Quoted.{escaped_byte}
use Rattle.mcv_spans.proofs.quoted.push_quoted.Given as goal

abbrev pub invariant-loop-byte : goal.invariant-loop-byte
invariant-loop-byte l = l.text.items ≡ l.fn.text.items ++ 34 ∷ flat_map escaped_byte (take l.byte-index l.body)
