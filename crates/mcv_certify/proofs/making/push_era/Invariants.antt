use Rattle.std.proofs.Common.{◌-◌}
use Rattle.mcv_blocks.specs.Spots.{gets_from}
use Rattle.mcv_judge.specs.PairsInMemory.{pairs_of}
use Rattle.mcv_certify.proofs.SpotBySpot.{AddsUpTo}
use Rattle.mcv_certify.proofs.making.push_era.Given as goal

abbrev pub invariant-loop-get_era : goal.invariant-loop-get_era
invariant-loop-get_era l =
    AddsUpTo l.routes (gets_from l.at.class.now l.at.era l.at.near.first (l.at.near.end - l.at.near.first)) (gets_from l.at.class.now l.at.era l.get_era (l.at.near.end - l.get_era)) (pairs_of l.fn.pairs.items) (pairs_of l.pairs.items)
