-- The aliases of a configuration are those of the routes that it names.
use Rattle.std.proofs.Common.{◌≡◌, ◌∙◌, ℕ, List, [], ◌∷◌, ap, map, refl, sym}
use Rattle.mcv_config.specs.ConfigValue.{ConfigValue, EntryValue, entry_value}
use Rattle.mcv_config.specs.declared.config.Entry.{Entry}
use Rattle.mcv_pools.specs.Symbol.{SymbolValue}
use Rattle.mcv_route.specs.NamedRoutes.{routes_named, symbols_named, tree_named}
use Rattle.mcv_route.specs.Routes.{RouteEntry, RoutesValue}
use Rattle.mcv_mend.specs.Aliases.{route_aliases}

abbrev pub entry_aliases : Entry → List (List ℕ)
entry_aliases e = e.aliases.items

abbrev value_aliases : EntryValue → List (List ℕ)
value_aliases e = e.aliases

-- by the entries in memory
entries_aliases : (es : List Entry) → map entry_aliases es ≡ map value_aliases (map entry_value es)
entries_aliases [] = refl
entries_aliases (e ∷ es) = ap (λ (xs : List (List (List ℕ))). e.aliases.items ∷ xs) (entries_aliases es)

pub config_aliases : (es : List Entry) (p : ConfigValue) → map entry_value es ≡ p.entries → map entry_aliases es ≡ map (λ e. e.aliases) p.entries
config_aliases es p same = entries_aliases es ∙ ap (map value_aliases) same

-- the entry's route as a tree
abbrev entry_named : List SymbolValue → List (List ℕ) → EntryValue → RouteEntry
entry_named symbols pools e = record { aliases = e.aliases; tree = tree_named symbols pools e.route }

trees_aliases : (symbols : List SymbolValue) (pools : List (List ℕ)) (es : List EntryValue) → map value_aliases es ≡ map (λ e. e.aliases) (map (entry_named symbols pools) es)
trees_aliases symbols pools [] = refl
trees_aliases symbols pools (e ∷ es) = ap (λ (xs : List (List (List ℕ))). e.aliases ∷ xs) (trees_aliases symbols pools es)

pub named_aliases : (p : ConfigValue) (r : RoutesValue) → r ≡ routes_named p → map (λ e. e.aliases) p.entries ≡ route_aliases r
named_aliases p r is = trees_aliases (symbols_named p) p.pools p.entries ∙ sym (ap route_aliases is)
