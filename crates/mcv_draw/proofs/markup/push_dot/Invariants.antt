use Rattle.std.proofs.Common.{◌≡◌, ◌++◌, take}
use Rattle.mcv_draw.specs.Markup.{dot_text}
use Rattle.mcv_draw.proofs.markup.push_dot.Given as goal

abbrev pub invariant-loop-byte : goal.invariant-loop-byte
invariant-loop-byte l = l.text.items ≡ l.fn.text.items ++ dot_text (take l.byte-index l.bytes)
