use Rattle.std.proofs.Common.{◌≡◌, map}
use Rattle.std.specs.List.{All}
use Rattle.mcv_blocks.specs.Places.{IsRouteClass}
use Rattle.mcv_needs.specs.InMemory.{class_of_need, need_value}
use Rattle.mcv_needs.specs.Needs.{IsLeastNeed}
use Rattle.mcv_needs.proofs.needs.class_needs.Given as goal

-- those of the classes so far
abbrev pub invariant-loop-class : goal.invariant-loop-class
invariant-loop-class l = record {
  classes : map class_of_need l.needs.items ≡ l.yielded;
  least : All (λ n. IsRouteClass l.routes (class_of_need n) → IsLeastNeed l.routes (need_value n)) l.needs.items;
}
