use Rattle.std.proofs.Common.{◌≡◌, ◌-◌, length}
use Rattle.mcv_blocks.specs.SetsInEras.{AreSetsFrom}
use Rattle.mcv_blocks.proofs.sliding.slide.Given as goal

abbrev pub invariant-loop-alloc : goal.invariant-loop-alloc
invariant-loop-alloc l = record {
  first : l.sets.first ≡ l.near.first;
  sets : AreSetsFrom l.routes l.at.class.now l.sets.first l.sets.sets.items;
}

abbrev pub decreases-loop-alloc : goal.decreases-loop-alloc
decreases-loop-alloc l = l.count - length l.sets.sets.items
