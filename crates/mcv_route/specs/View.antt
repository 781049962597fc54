-- The tree of a `Route`: one row for each handle, in the order of the handles (own).
use Rattle.std.specs.Prelude.{ℕ, List, [], ◌∷◌, ◌++◌, map, Option, Some, None, option_map, Box}
use Rattle.std.specs.declared.alloc.Global.{Global}
use Rattle.mcv_base.specs.declared.operation.Op.{Op}
use Rattle.mcv_route.specs.Tree.{Pool, Range, Tree, Trees, pool, null, error, many, warm_up, migrate, prefix_selector, operation_selector, none, child}
use Rattle.mcv_route.specs.declared.tree.Leaf.{Leaf}
use Rattle.mcv_route.specs.declared.tree.Route.{Route}
use Rattle.mcv_route.specs.declared.tree.Route.TheOpen.{Route-F, OperationPolicy-F, PrefixPolicy-F, Shadow-F}
use Rattle.mcv_route.specs.declared.tree.Route.TheFolds.{fold-Route, fold-OperationPolicy, fold-PrefixPolicy, fold-Shadow}
use Rattle.mcv_route.specs.declared.tree.OperationPolicy.{OperationPolicy}
use Rattle.mcv_route.specs.declared.tree.PrefixPolicy.{PrefixPolicy}
use Rattle.mcv_route.specs.declared.tree.Shadow.{Shadow}

-- a shadow's range, with its target seen as a tree
abbrev pub ShadowView : Type 0
ShadowView = Range × Tree

-- a prefix, with its route seen as a tree
abbrev pub PrefixView : Type 0
PrefixView = List ℕ × Tree

-- an operation, with its route seen as a tree
abbrev pub OperationView : Type 0
OperationView = Option Op × Tree

abbrev pub trees_of : List Tree → Trees
trees_of [] = none
trees_of (t ∷ ts) = child t (trees_of ts)

-- the route after all policies, if there is one
abbrev pub last_of : Option Tree → List Tree
last_of None = []
last_of (Some t) = t ∷ []

abbrev pub pool_view : Leaf → Pool
pool_view leaf = record { symbol = leaf.symbol; servers = map (λ s. s.0) leaf.servers.value.items }

-- one handle, with each route below it already seen as its tree
abbrev pub view_step : Route-F Tree OperationView PrefixView ShadowView → Tree
view_step (Route-F.Pool leaf shadows) = pool (pool_view leaf) (map (λ s. s.0) shadows.items) (trees_of (map (λ s. s.1) shadows.items))
view_step Route-F.Null = null
view_step Route-F.Error = error
view_step (Route-F.Many kind children) = many kind (trees_of children.items)
view_step (Route-F.WarmUp cold warm exptime) = warm_up cold.value warm.value exptime
view_step (Route-F.Migrate from to start interval) = migrate from.value to.value start interval
view_step (Route-F.PrefixSelector policies wildcard) =
    prefix_selector (map (λ p. p.0) policies.items) (trees_of (map (λ p. p.1) policies.items ++ last_of (option_map (λ r. r.value) wildcard)))
view_step (Route-F.OperationSelector policies default) =
    operation_selector (map (λ p. p.0) policies.items) (trees_of (map (λ p. p.1) policies.items ++ last_of (option_map (λ r. r.value) default)))

abbrev pub operation_step : OperationPolicy-F Tree OperationView PrefixView ShadowView → OperationView
operation_step p = (p.op, p.route)

abbrev pub prefix_step : PrefixPolicy-F Tree OperationView PrefixView ShadowView → PrefixView
prefix_step p = (p.«prefix».items, p.route)

abbrev pub shadow_step : Shadow-F Tree OperationView PrefixView ShadowView → ShadowView
shadow_step s = (record { first = s.first; last = s.last }, s.target)

abbrev pub view : Route → Tree
view = fold-Route Tree OperationView PrefixView ShadowView view_step operation_step prefix_step shadow_step

abbrev pub operation_view : OperationPolicy → OperationView
operation_view = fold-OperationPolicy Tree OperationView PrefixView ShadowView view_step operation_step prefix_step shadow_step

abbrev pub prefix_view : PrefixPolicy → PrefixView
prefix_view = fold-PrefixPolicy Tree OperationView PrefixView ShadowView view_step operation_step prefix_step shadow_step

abbrev pub shadow_view : Shadow → ShadowView
shadow_view = fold-Shadow Tree OperationView PrefixView ShadowView view_step operation_step prefix_step shadow_step

-- the route after all policies, if there is one
abbrev pub last_view : Option (Box Route Global) → List Tree
last_view None = []
last_view (Some r) = view r.value ∷ []
