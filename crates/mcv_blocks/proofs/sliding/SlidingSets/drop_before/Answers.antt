use Rattle.std.proofs.Common.{◌+◌, arith, subst, sym}
use Rattle.mcv_blocks.specs.SetsInEras.{AreSetsFrom, AreSetsOf}
use Rattle.mcv_blocks.proofs.SetsEraByEra.{each_later}
use Rattle.mcv_blocks.proofs.sliding.SlidingSets.drop_before.Goals as goal

pub loop-self-preserved : goal.loop-self-preserved
loop-self-preserved c = record {
  low = omega arith;
  sets = λ r class are.
      let now = c.loop-self.invariant.sets r class are in
      subst (AreSetsFrom r class (c.loop-self.self.first + 1)) (sym c.pop_front.ensures.rest) (each_later (AreSetsOf r class) c.loop-self.self.first c.loop-self.self.sets.items now);
}
