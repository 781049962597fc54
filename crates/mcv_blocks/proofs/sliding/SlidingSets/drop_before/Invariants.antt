use Rattle.std.proofs.Common.{◌≤◌, ◌-◌}
use Rattle.mcv_route.specs.Routes.{RoutesValue}
use Rattle.mcv_blocks.specs.SetsInEras.{AreSetsFrom}
use Rattle.mcv_blocks.specs.declared.classes.RouteClass.{RouteClass}
use Rattle.mcv_blocks.proofs.sliding.SlidingSets.drop_before.Given as goal

abbrev pub invariant-loop-self : goal.invariant-loop-self
invariant-loop-self l = record {
  low : l.self.first ≤ l.first;
  sets : (r : RoutesValue) (c : RouteClass) → AreSetsFrom r c l.fn.self.first l.fn.self.sets.items → AreSetsFrom r c l.self.first l.self.sets.items;
}

abbrev pub decreases-loop-self : goal.decreases-loop-self
decreases-loop-self l = l.first - l.self.first
