-- A walk over handles that a configuration names, which makes their trees and adds their symbols to a table (own).
use Rattle.std.specs.Prelude.{◌≡◌, ℕ, List, [], ◌∷◌, Option, Some, None, Box, map, fold}
use Rattle.std.specs.List.{flat_map}
use Rattle.std.specs.declared.alloc.Global.{Global}
use Rattle.std.specs.declared.sync.Arc.{Arc}
use Rattle.std.specs.declared.vec.Vec.{Vec}
use Rattle.mcv_base.specs.declared.request.ServerId.{ServerId}
use Rattle.mcv_config.specs.ConfigValue.{Named, named_of}
use Rattle.mcv_config.specs.declared.config.NamedRoute.{NamedRoute}
use Rattle.mcv_pools.specs.Symbol.{SymbolValue, same_symbol}
use Rattle.mcv_pools.specs.Table.{with_entry}
use Rattle.mcv_route.specs.NamedRoutes.{symbols_in, tree_named}
use Rattle.mcv_route.specs.Tree.{Tree}

-- the servers of a shared list
abbrev pub list_view : Arc (Vec ServerId Global) Global → List ℕ
list_view list = map (λ s. s.0) list.value.items

-- what comes after all policies, if anything does
abbrev pub last_named : Option (Box NamedRoute Global) → List Named
last_named None = []
last_named (Some r) = named_of r.value ∷ []

-- the symbols of the handles come into the table in their order, and the trees are those of the handles under the table then
pub record IsBuilt (pools : List (List ℕ)) (before : List SymbolValue) (handles : List Named) (after : List SymbolValue) (trees : List Tree) : Type 0 where
  pub table : after ≡ fold (with_entry same_symbol) before (flat_map (symbols_in pools) handles)
  pub trees_are : trees ≡ map (tree_named after pools) handles
