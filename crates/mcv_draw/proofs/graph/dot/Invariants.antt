use Rattle.std.proofs.Common.{◌≡◌, ◌++◌, map, take}
use Rattle.std.specs.List.{flat_map}
use Rattle.mcv_draw.specs.Dot.{dot_head, dot_line}
use Rattle.mcv_draw.specs.Element.{element_of}
use Rattle.mcv_draw.proofs.graph.dot.Given as goal

abbrev pub invariant-loop-element : goal.invariant-loop-element
invariant-loop-element l = l.text.items ≡ dot_head ++ flat_map dot_line (map element_of (take l.element-index l.picture.elements.items))
