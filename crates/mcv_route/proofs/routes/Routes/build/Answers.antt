use Rattle.std.proofs.Common.{◌≡◌, ◌<◌, true, map, ap, sym, subst, ◌∙◌}
use Rattle.std.specs.List.{All, flat_map}
use Rattle.mcv_base.specs.Server.{is_server}
use Rattle.mcv_config.specs.ConfigValue.{IsSound}
use Rattle.mcv_route.specs.Aliases.{AreSelected}
use Rattle.mcv_route.specs.NamedRoutes.{routes_named}
use Rattle.mcv_route.specs.Eras.{breaks, IsBreakTable}
use Rattle.mcv_route.specs.Limits.{AreWithinLimits}
use Rattle.mcv_route.specs.Routes.{IsSoundRoutes}
use Rattle.mcv_route.specs.RoutesView.{entry_view, numbers_of}
use Rattle.mcv_route.specs.Walk.{list_view}
use Rattle.mcv_route.proofs.Limits.{within-built}
use Rattle.mcv_route.proofs.FirstAlias.{selected-built}
use Rattle.mcv_route.proofs.Soundness.{sound-built}
use Rattle.mcv_route.proofs.SymbolsHaveServers.{symbols_have_servers}
use Rattle.mcv_route.proofs.BuiltRoutes.{sound-entries, routes-are}
use Rattle.mcv_route.proofs.routes.Routes.build.Goals as goal

pub build_entries-requires-clause-sound : goal.build_entries-requires-clause-sound
build_entries-requires-clause-sound c =
    sound-entries c.into_parts-servers.result (map list_view c.as_slice.result.now) (ap (map list_view) c.as_slice.ensures.value ∙ c.in_ok-lists.ensures)
    (subst IsSound (sym c.into_parts-servers.ensures.config) c.into_parts-servers.ensures.sound)

pub invariant_of-result : goal.invariant_of-result
invariant_of-result c =
    let pools = map list_view c.as_slice.result.now in
    let is = routes-are c.into_parts-servers.result pools c.build_entries.new.symbols c.in_ok-entries.entries.items (ap (map list_view) c.as_slice.ensures.value ∙ c.in_ok-lists.ensures) c.in_ok-entries.ensures.aliases
    (rw (← c.new-symbols.ensures) c.in_ok-entries.ensures.routes) ∙ ap routes_named c.into_parts-servers.ensures.config in
    let P : _ → Type 0 = λ bs. IsBreakTable bs (numbers_of c.in_ok-break_table.break_table.items) in
    record {
      trees = subst IsSoundRoutes (sym is) (sound-built c.args.config c.into_parts-servers.ensures.sound);
      texts = subst (λ r. All (λ text. is_server text ≡ true) r.servers) (sym is) c.into_parts-servers.ensures.sound.texts;
      sizes = subst (λ r. All (λ s. 0 < s.n) r.symbols) (sym is) (symbols_have_servers c.args.config c.into_parts-servers.ensures.sound);
      limits = subst AreWithinLimits (sym is) (within-built c.args.config c.into_parts-servers.ensures.sound c.into_parts-servers.ensures.limits);
      selected = subst (λ r. AreSelected r.entries) (sym is) (selected-built c.args.config c.into_parts-servers.ensures.sound);
      table = subst P (c.in_ok-moments.ensures ∙ ap (λ es. flat_map (λ e. breaks e.tree) (map entry_view es)) c.as_slice-2.ensures.value) c.in_ok-break_table.ensures;
    }

pub returns : goal.returns
returns c =
    routes-are c.into_parts-servers.result (map list_view c.as_slice.result.now) c.build_entries.new.symbols c.in_ok-entries.entries.items (ap (map list_view) c.as_slice.ensures.value ∙ c.in_ok-lists.ensures) c.in_ok-entries.ensures.aliases
    (rw (← c.new-symbols.ensures) c.in_ok-entries.ensures.routes) ∙ ap routes_named c.into_parts-servers.ensures.config
