-- The tree of a route, one level at a time.
use Rattle.std.proofs.Common.{◌≡◌, ℕ, List, ◌++◌, map, Vec, Box, Global, Option, Some, None, rules}
use Rattle.mcv_base.specs.declared.operation.Op.{Op}
use Rattle.mcv_names.specs.declared.handle.Many.{Many as Kind}
use Rattle.mcv_route.specs.Tree.{Range, Trees, pool, null, error, many, warm_up, migrate, prefix_selector, operation_selector}
pub use Rattle.mcv_route.specs.View.{last_view}
use Rattle.mcv_route.specs.View.{trees_of, pool_view, view, operation_view, prefix_view, shadow_view}
use Rattle.mcv_route.specs.declared.tree.Leaf.{Leaf}
use Rattle.mcv_route.specs.declared.tree.OperationPolicy.{OperationPolicy, out-OperationPolicy}
use Rattle.mcv_route.specs.declared.tree.PrefixPolicy.{PrefixPolicy, out-PrefixPolicy}
use Rattle.mcv_route.specs.declared.tree.Shadow.{Shadow, out-Shadow}
use Rattle.mcv_route.specs.declared.tree.Route.{Route, Pool, Null, Error, Many, WarmUp, Migrate, PrefixSelector, OperationSelector, the_lemmas}

-- the children of a handle that has a list of them
abbrev pub children_view : List Route → Trees
children_view routes = trees_of (map view routes)

-- the ranges of shadows
abbrev pub ranges_of : List Shadow → List Range
ranges_of shadows = map (λ s. s.0) (map shadow_view shadows)

-- the targets of shadows
abbrev pub targets_of : List Shadow → Trees
targets_of shadows = trees_of (map (λ s. s.1) (map shadow_view shadows))

-- the prefixes of policies
abbrev pub prefixes_of : List PrefixPolicy → List (List ℕ)
prefixes_of policies = map (λ p. p.0) (map prefix_view policies)

-- the routes of policies, with the wildcard after them
abbrev pub prefix_routes_of : List PrefixPolicy → Option (Box Route Global) → Trees
prefix_routes_of policies wildcard = trees_of (map (λ p. p.1) (map prefix_view policies) ++ last_view wildcard)

-- the operations of policies
abbrev pub operations_of : List OperationPolicy → List (Option Op)
operations_of policies = map (λ p. p.0) (map operation_view policies)

-- the routes of policies, with the default after them
abbrev pub routes_of : List OperationPolicy → Option (Box Route Global) → Trees
routes_of policies default = trees_of (map (λ p. p.1) (map operation_view policies) ++ last_view default)

pub view-Pool : (leaf : Leaf) (v : Vec Shadow Global) → view (Pool leaf v) ≡ pool (pool_view leaf) (ranges_of v.items) (targets_of v.items)
view-Pool leaf v = search (rules, the_lemmas)

pub view-Null : view Null ≡ null
view-Null = search (rules, the_lemmas)

pub view-Error : view Error ≡ error
view-Error = search (rules, the_lemmas)

pub view-Many : (kind : Kind) (v : Vec Route Global) → view (Many kind v) ≡ many kind (children_view v.items)
view-Many kind v = search (rules, the_lemmas)

pub view-WarmUp : (cold warm : Box Route Global) (exptime : ℕ) → view (WarmUp cold warm exptime) ≡ warm_up (view cold.value) (view warm.value) exptime
view-WarmUp cold warm exptime = search (rules, the_lemmas)

pub view-Migrate : (from to : Box Route Global) (start interval : ℕ) → view (Migrate from to start interval) ≡ migrate (view from.value) (view to.value) start interval
view-Migrate from to start interval = search (rules, the_lemmas)

pub shadow_view-out : (s : Shadow) → shadow_view s ≡ (record { first = (out-Shadow s).first; last = (out-Shadow s).last }, view (out-Shadow s).target)
shadow_view-out s = search (rules, the_lemmas)

pub prefix_view-out : (p : PrefixPolicy) → prefix_view p ≡ ((out-PrefixPolicy p).«prefix».items, view (out-PrefixPolicy p).route)
prefix_view-out p = search (rules, the_lemmas)

pub operation_view-out : (p : OperationPolicy) → operation_view p ≡ ((out-OperationPolicy p).op, view (out-OperationPolicy p).route)
operation_view-out p = search (rules, the_lemmas)

pub view-PrefixSelector-None : (v : Vec PrefixPolicy Global) → view (PrefixSelector v None) ≡ prefix_selector (prefixes_of v.items) (prefix_routes_of v.items None)
view-PrefixSelector-None v = search (rules, the_lemmas)

pub view-PrefixSelector-Some : (v : Vec PrefixPolicy Global) (w : Box Route Global) → view (PrefixSelector v (Some w)) ≡ prefix_selector (prefixes_of v.items) (prefix_routes_of v.items (Some w))
view-PrefixSelector-Some v w = search (rules, the_lemmas)

pub view-PrefixSelector : (v : Vec PrefixPolicy Global) (w : Option (Box Route Global)) → view (PrefixSelector v w) ≡ prefix_selector (prefixes_of v.items) (prefix_routes_of v.items w)
view-PrefixSelector v None = view-PrefixSelector-None v
view-PrefixSelector v (Some w) = view-PrefixSelector-Some v w

pub view-OperationSelector-None : (v : Vec OperationPolicy Global) → view (OperationSelector v None) ≡ operation_selector (operations_of v.items) (routes_of v.items None)
view-OperationSelector-None v = search (rules, the_lemmas)

pub view-OperationSelector-Some : (v : Vec OperationPolicy Global) (d : Box Route Global) → view (OperationSelector v (Some d)) ≡ operation_selector (operations_of v.items) (routes_of v.items (Some d))
view-OperationSelector-Some v d = search (rules, the_lemmas)

pub view-OperationSelector : (v : Vec OperationPolicy Global) (d : Option (Box Route Global)) → view (OperationSelector v d) ≡ operation_selector (operations_of v.items) (routes_of v.items d)
view-OperationSelector v None = view-OperationSelector-None v
view-OperationSelector v (Some d) = view-OperationSelector-Some v d
