-- Places in the tree of a route: what is at a position, and which route a routing prefix selects.
use Rattle.std.specs.Prelude.{ℕ, zero, suc, List, [], ◌∷◌, Bool, Option, Some, None, option_and_then, position, slice_get}
use Rattle.std.specs.List.{list_any}
use Rattle.std.specs.Str.{bytes_eq}
use Rattle.mcv_route.specs.Tree.{Pool, Tree, Trees, pool, null, error, many, warm_up, migrate, prefix_selector, operation_selector, none, child}
use Rattle.mcv_route.specs.Routes.{RouteEntry, RoutesValue}

-- the children in the order of their numbers; the add of a warm-up goes to the cold side under the number 2
abbrev pub children_of : Tree → Trees
children_of (pool p ranges targets) = targets
children_of null = none
children_of error = none
children_of (many kind ts) = ts
children_of (warm_up cold warm exptime) = child cold (child warm (child cold none))
children_of (migrate from to start interval) = child from (child to none)
children_of (prefix_selector prefixes ts) = ts
children_of (operation_selector ops ts) = ts

abbrev pub child_at : Trees → ℕ → Option Tree
child_at none k = None
child_at (child t ts) zero = Some t
child_at (child t ts) (suc k) = child_at ts k

-- what is at a position
abbrev pub tree_at : Tree → List ℕ → Option Tree
tree_at t [] = Some t
tree_at t (k ∷ p) = option_and_then (λ u. tree_at u p) (child_at (children_of t) k)

abbrev pub pool_of : Tree → Option Pool
pool_of (pool p ranges targets) = Some p
pool_of _ = None

-- the pool at a position, where a PoolRoute is there
abbrev pub pool_at_position : Tree → List ℕ → Option Pool
pool_at_position t p = option_and_then pool_of (tree_at t p)

-- one of the entry's aliases is the prefix
abbrev pub is_alias : List ℕ → RouteEntry → Bool
is_alias prefix e = list_any (λ a. bytes_eq a prefix) e.aliases

-- the number of the first entry that has the prefix among its aliases
abbrev pub route_of_prefix : List ℕ → List RouteEntry → Option ℕ
route_of_prefix prefix entries = position (is_alias prefix) entries

-- the pool at a position of the route with this number
abbrev pub leaf_in : RoutesValue → ℕ → List ℕ → Option Pool
leaf_in r number p = option_and_then (λ e. pool_at_position e.tree p) (slice_get r.entries number)
