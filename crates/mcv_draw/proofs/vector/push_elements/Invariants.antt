use Rattle.std.proofs.Common.{◌≡◌, ◌++◌, map, take}
use Rattle.std.specs.List.{flat_map}
use Rattle.mcv_draw.specs.Element.{element_of}
use Rattle.mcv_draw.specs.Svg.{element_text}
use Rattle.mcv_draw.proofs.vector.push_elements.Given as goal

abbrev pub invariant-loop-element : goal.invariant-loop-element
invariant-loop-element l = l.text.items ≡ l.fn.text.items ++ flat_map element_text (map element_of (take l.element-index l.elements))
