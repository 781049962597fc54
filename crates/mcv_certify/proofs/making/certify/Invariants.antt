use Rattle.std.proofs.Common.{[], drop}
use Rattle.mcv_judge.specs.PairsInMemory.{pairs_of}
use Rattle.mcv_blocks.specs.Spots.{classes_in_eras}
use Rattle.mcv_certify.proofs.SpotBySpot.{AddsUpTo}
use Rattle.mcv_certify.proofs.making.certify.Given as goal

abbrev pub invariant-loop-class : goal.invariant-loop-class
invariant-loop-class l = AddsUpTo l.routes (classes_in_eras l.class-items l.near) (classes_in_eras (drop l.class-index l.class-items) l.near) [] (pairs_of l.pairs.items)
