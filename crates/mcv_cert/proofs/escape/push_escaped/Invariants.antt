use Rattle.std.proofs.Common.{◌≡◌, ◌++◌, take}
use Rattle.mcv_cert.specs.Escape.{escaped}
use Rattle.mcv_cert.proofs.escape.push_escaped.Given as goal

abbrev pub invariant-loop-byte : goal.invariant-loop-byte
invariant-loop-byte l = l.text.items ≡ l.fn.text.items ++ escaped (take l.byte-index l.word)
