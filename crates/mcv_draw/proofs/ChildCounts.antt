-- How many children of a handle are drawn.
use Rattle.std.proofs.Common.{◌≡◌, ◌∙◌, ◌+◌, ℕ, suc, List, [], ◌∷◌, ◌++◌, Option, Some, None, ap, arith, length, length-append, map, refl}
use Rattle.std.proofs.lemmas.List.{length-map}
use Rattle.std.specs.Prelude.{Box, Vec}
use Rattle.std.specs.declared.alloc.Global.{Global}
use Rattle.mcv_route.specs.Tree.{Many as Kind, Tree}
use Rattle.mcv_route.specs.View.{last_view, operation_view, prefix_view, shadow_view, trees_of, view}
use Rattle.mcv_route.specs.declared.tree.Leaf.{Leaf}
use Rattle.mcv_route.specs.declared.tree.OperationPolicy.{OperationPolicy}
use Rattle.mcv_route.specs.declared.tree.PrefixPolicy.{PrefixPolicy}
use Rattle.mcv_route.specs.declared.tree.Route.{Route}
use Rattle.mcv_route.specs.declared.tree.Route.TheVariants.{Pool, Null, Error, Many, WarmUp, Migrate, PrefixSelector, OperationSelector}
use Rattle.mcv_route.specs.declared.tree.Shadow.{Shadow}
use Rattle.mcv_route.proofs.Views.{view-Pool, view-Null, view-Error, view-Many, view-WarmUp, view-Migrate, view-PrefixSelector, view-OperationSelector}
use Rattle.mcv_draw.specs.Children.{drawn_children, last_count, tree_count}

count_trees : (ts : List Tree) → tree_count (trees_of ts) ≡ length ts
count_trees [] = refl
count_trees (t ∷ ts) = ap suc (count_trees ts)

abbrev counted : Route → ℕ
counted r = tree_count (drawn_children (view r))

pub counted_pool : (leaf : Leaf) (v : Vec Shadow Global) → tree_count (drawn_children (view (Pool leaf v))) ≡ length v.items
counted_pool leaf v =
    ap (λ t. tree_count (drawn_children t)) (view-Pool leaf v) ∙ (count_trees (map (λ s. s.1) (map shadow_view v.items)) ∙ (length-map (map shadow_view v.items) (λ s. s.1) ∙ length-map v.items shadow_view))

pub counted_null : tree_count (drawn_children (view Null)) ≡ 0
counted_null = ap (λ t. tree_count (drawn_children t)) view-Null

pub counted_error : tree_count (drawn_children (view Error)) ≡ 0
counted_error = ap (λ t. tree_count (drawn_children t)) view-Error

pub counted_many : (kind : Kind) (v : Vec Route Global) → tree_count (drawn_children (view (Many kind v))) ≡ length v.items
counted_many kind v = ap (λ t. tree_count (drawn_children t)) (view-Many kind v) ∙ (count_trees (map view v.items) ∙ length-map v.items view)

pub counted_warm_up : (cold warm : Box Route Global) (exptime : ℕ) → tree_count (drawn_children (view (WarmUp cold warm exptime))) ≡ 2
counted_warm_up cold warm exptime = ap (λ t. tree_count (drawn_children t)) (view-WarmUp cold warm exptime)

pub counted_migrate : (from to : Box Route Global) (start interval : ℕ) → tree_count (drawn_children (view (Migrate from to start interval))) ≡ 2
counted_migrate from to start interval = ap (λ t. tree_count (drawn_children t)) (view-Migrate from to start interval)

length-last : (d : Option (Box Route Global)) → length (last_view d) ≡ last_count d
length-last None = refl
length-last (Some r) = refl

pub counted_prefix_selector : (v : Vec PrefixPolicy Global) (d : Option (Box Route Global)) → tree_count (drawn_children (view (PrefixSelector v d))) ≡ length v.items + last_count d
counted_prefix_selector v d =
    let routes : List Tree = map (λ p. p.1) (map prefix_view v.items) in
    let routes_count : length routes ≡ length v.items = length-map (map prefix_view v.items) (λ p. p.1) ∙ length-map v.items prefix_view in
    let last : length (last_view d) ≡ last_count d = length-last d in
    ap (λ t. tree_count (drawn_children t)) (view-PrefixSelector v d) ∙ (count_trees (routes ++ last_view d) ∙ omega (arith, length-append routes (last_view d)))

pub counted_operation_selector : (v : Vec OperationPolicy Global) (d : Option (Box Route Global)) → tree_count (drawn_children (view (OperationSelector v d))) ≡ length v.items + last_count d
counted_operation_selector v d =
    let routes : List Tree = map (λ p. p.1) (map operation_view v.items) in
    let routes_count : length routes ≡ length v.items = length-map (map operation_view v.items) (λ p. p.1) ∙ length-map v.items operation_view in
    let last : length (last_view d) ≡ last_count d = length-last d in
    ap (λ t. tree_count (drawn_children t)) (view-OperationSelector v d) ∙ (count_trees (routes ++ last_view d) ∙ omega (arith, length-append routes (last_view d)))
