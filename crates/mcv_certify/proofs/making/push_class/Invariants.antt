use Rattle.std.proofs.Common.{drop}
use Rattle.mcv_blocks.specs.SetsInEras.{AreSetsFrom}
use Rattle.mcv_blocks.specs.Spots.{eras_near}
use Rattle.mcv_judge.specs.PairsInMemory.{pairs_of}
use Rattle.mcv_certify.proofs.SpotBySpot.{AddsUpTo}
use Rattle.mcv_certify.proofs.making.push_class.Given as goal

abbrev pub invariant-loop-era : goal.invariant-loop-era
invariant-loop-era l = record {
  sets : AreSetsFrom l.routes l.class l.sets.first l.sets.sets.items;
  so_far : AddsUpTo l.routes (eras_near l.class 0 l.nears) (eras_near l.class l.era (drop l.era l.nears)) (pairs_of l.fn.pairs.items) (pairs_of l.pairs.items);
}
