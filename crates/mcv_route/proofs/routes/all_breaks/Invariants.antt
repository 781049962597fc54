use Rattle.std.proofs.Common.{◌≡◌, map, take}
use Rattle.std.specs.List.{flat_map}
use Rattle.mcv_route.specs.Eras.{breaks}
use Rattle.mcv_route.specs.RoutesView.{entry_view}
use Rattle.mcv_route.proofs.routes.all_breaks.Given as goal

-- the breaks of the entries so far are there
abbrev pub invariant-loop-entry : goal.invariant-loop-entry
invariant-loop-entry l = l.moments.items ≡ flat_map (λ e. breaks e.tree) (map entry_view (take l.entry-index l.entries))
