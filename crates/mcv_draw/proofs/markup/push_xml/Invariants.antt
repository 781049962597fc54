use Rattle.std.proofs.Common.{◌≡◌, ◌++◌, take}
use Rattle.mcv_draw.specs.Markup.{xml_text}
use Rattle.mcv_draw.proofs.markup.push_xml.Given as goal

abbrev pub invariant-loop-byte : goal.invariant-loop-byte
invariant-loop-byte l = l.text.items ≡ l.fn.text.items ++ xml_text (take l.byte-index l.bytes)
