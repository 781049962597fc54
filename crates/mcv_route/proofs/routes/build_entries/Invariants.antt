use Rattle.std.proofs.Common.{◌≡◌, map}
use Rattle.std.specs.List.{All}
use Rattle.mcv_config.specs.ConfigValue.{IsSoundRoute, named_of}
use Rattle.mcv_route.specs.View.{view}
use Rattle.mcv_route.specs.Walk.{IsBuilt, list_view}
use Rattle.mcv_route.proofs.routes.build_entries.Given as goal

-- the entries so far are built, and those that are left are sound
abbrev pub invariant-loop-entry : goal.invariant-loop-entry
invariant-loop-entry l = record {
  left : All (λ e. IsSoundRoute (map list_view l.lists) (named_of e.route)) l.entry-iterator.rest.items;
  aliases : map (λ r. r.aliases.items) l.built.items ≡ map (λ e. e.aliases.items) l.yielded;
  routes : IsBuilt (map list_view l.lists) l.fn.symbols (map (λ e. named_of e.route) l.yielded) l.symbols (map (λ r. view r.route) l.built.items);
}
