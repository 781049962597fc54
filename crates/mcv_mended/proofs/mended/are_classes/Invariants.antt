use Rattle.std.proofs.Common.{◌≡◌, map, take}
use Rattle.mcv_mended.specs.Classes.{places_of}
use Rattle.mcv_needs.specs.InMemory.{class_of_need}
use Rattle.mcv_mended.proofs.mended.are_classes.Given as goal

-- the needs so far are those of the classes so far
abbrev pub invariant-loop-number : goal.invariant-loop-number
invariant-loop-number l = places_of (map class_of_need (take l.number l.needs)) ≡ places_of (take l.number l.classes)
