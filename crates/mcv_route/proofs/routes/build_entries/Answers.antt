use Rattle.std.proofs.Common.{map}
use Rattle.std.proofs.lemmas.List.Elements.{All-rest}
use Rattle.mcv_config.specs.ConfigValue.{IsSoundRoute, named_of}
use Rattle.mcv_route.specs.Walk.{list_view}
use Rattle.mcv_route.proofs.BuiltRoutes.{entry-more, aliases-more}
use Rattle.mcv_route.proofs.routes.build_entries.Goals as goal

pub loop-entry-preserved : goal.loop-entry-preserved
loop-entry-preserved c =
    let pools = map list_view c.args.lists.now in
    record {
      left = All-rest (λ e. IsSoundRoute pools (named_of e.route)) c.in-Some.entry c.next.new.self.rest.items c.loop-entry.entry-iterator.rest.items c.in-Some.ensures.steps.0 c.loop-entry.invariant.left;
      aliases = rw c.in_ok-push.ensures.items (aliases-more c.loop-entry.yielded c.loop-entry.built.items c.in-Some.entry c.in_ok-build_entry.field-0 c.loop-entry.invariant.aliases c.in_ok-build_entry.ensures.aliases);
      routes = rw c.in_ok-push.ensures.items
          (entry-more pools c.args.symbols.now c.loop-entry.symbols c.build_entry.new.symbols c.loop-entry.yielded c.loop-entry.built.items c.in-Some.entry c.in_ok-build_entry.field-0
          c.loop-entry.invariant.routes c.in_ok-build_entry.ensures.route);
    }
