use Rattle.std.proofs.Common.{◌≡◌, length}
use Rattle.mcv_blocks.specs.Places.{IsRouteClass}
use Rattle.mcv_blocks.specs.SetsInEras.{AreSetsFrom}
use Rattle.mcv_blocks.specs.declared.classes.RouteClass.{RouteClass}
use Rattle.mcv_gaps.specs.Gaps.{wanteds_of}
use Rattle.mcv_route.specs.Routes.{RoutesValue}
use Rattle.mcv_needs.specs.Wanted.{AreNearsOf, AreWantedByEra}
use Rattle.mcv_needs.proofs.wanted.wanted_in_each.Given as goal

-- those of the eras so far
abbrev pub invariant-loop-era : goal.invariant-loop-era
invariant-loop-era l = record {
  many : length l.all.items ≡ l.era;
  each : (r : RoutesValue) (c : RouteClass) → IsRouteClass r c → AreSetsFrom r c 0 l.sets → AreNearsOf r l.nears → AreWantedByEra r c (wanteds_of l.all.items);
}
