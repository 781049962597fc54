use Rattle.std.proofs.Common.{◌≡◌, ◌<◌, ◌^◌, map, take}
use Rattle.mcv_draw.specs.Element.{element_of}
use Rattle.mcv_draw.specs.Svg.{widest}
use Rattle.mcv_draw.proofs.vector.widest_element.Given as goal

abbrev pub invariant-loop-element : goal.invariant-loop-element
invariant-loop-element l = (l.width ≡ widest (map element_of (take l.element-index l.elements))) × (l.width < 2 ^ 41)
