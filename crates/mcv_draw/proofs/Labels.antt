-- What stands in a box and on an edge, handle by handle.
use Rattle.std.proofs.Common.{◌≡◌, ◌∙◌, ◌==◌, ℕ, List, [], Option, Some, None, Bor, ◌∷◌, ap, arith, codes, length, map, min, refl, sym, take}
use Rattle.std.specs.Prelude.{Box, Vec, decimal, if◌then◌else◌, option_map, slice_get}
use Rattle.std.specs.Slice.{IsItemAt}
use Rattle.std.proofs.lemmas.Option.{slice_get-map}
use Rattle.std.specs.declared.alloc.Global.{Global}
use Rattle.mcv_base.specs.declared.request.ServerId.{ServerId}
use Rattle.mcv_route.specs.Tree.{Many as Kind, Tree}
use Rattle.mcv_route.specs.View.{OperationView, PrefixView, ShadowView, operation_view, pool_view, prefix_view, shadow_view, view}
use Rattle.mcv_route.specs.declared.tree.Leaf.{Leaf}
use Rattle.mcv_route.specs.declared.tree.OperationPolicy.{OperationPolicy, out-OperationPolicy}
use Rattle.mcv_route.specs.declared.tree.PrefixPolicy.{PrefixPolicy, out-PrefixPolicy}
use Rattle.mcv_route.specs.declared.tree.Route.{Route}
use Rattle.mcv_route.specs.declared.tree.Route.TheVariants.{Pool, Null, Error, Many, WarmUp, Migrate, PrefixSelector, OperationSelector}
use Rattle.mcv_route.specs.declared.tree.Shadow.{Shadow, out-Shadow}
use Rattle.mcv_draw.proofs.LegsInOrder.{leg_at}
use Rattle.mcv_route.proofs.Views.{operation_view-out, prefix_view-out, shadow_view-out, view-Pool, view-Null, view-Error, view-Many, view-WarmUp, view-Migrate, view-PrefixSelector, view-OperationSelector}
use Rattle.mcv_draw.specs.Label.{child_word, exptime_words, handle_name, many_name, migration_words, operation_word, own_words, pool_words, prefix_word, shadow_word}

-- ---- names

pub named_pool : (leaf : Leaf) (v : Vec Shadow Global) → handle_name (view (Pool leaf v)) ≡ codes "PoolRoute"
named_pool leaf v = ap handle_name (view-Pool leaf v)

pub named_null : handle_name (view Null) ≡ codes "NullRoute"
named_null = ap handle_name view-Null

pub named_error : handle_name (view Error) ≡ codes "ErrorRoute"
named_error = ap handle_name view-Error

pub named_many : (kind : Kind) (v : Vec Route Global) → handle_name (view (Many kind v)) ≡ many_name kind
named_many kind v = ap handle_name (view-Many kind v)

pub named_warm_up : (cold warm : Box Route Global) (exptime : ℕ) → handle_name (view (WarmUp cold warm exptime)) ≡ codes "WarmUpRoute"
named_warm_up cold warm exptime = ap handle_name (view-WarmUp cold warm exptime)

pub named_migrate : (from to : Box Route Global) (start interval : ℕ) → handle_name (view (Migrate from to start interval)) ≡ codes "MigrateRoute"
named_migrate from to start interval = ap handle_name (view-Migrate from to start interval)

pub named_prefix_selector : (v : Vec PrefixPolicy Global) (d : Option (Box Route Global)) → handle_name (view (PrefixSelector v d)) ≡ codes "PrefixSelectorRoute"
named_prefix_selector v d = ap handle_name (view-PrefixSelector v d)

pub named_operation_selector : (v : Vec OperationPolicy Global) (d : Option (Box Route Global)) → handle_name (view (OperationSelector v d)) ≡ codes "OperationSelectorRoute"
named_operation_selector v d = ap handle_name (view-OperationSelector v d)

-- ---- what a handle has beside its children

pub owned_pool : (table : List (List ℕ)) (leaf : Leaf) (v : Vec Shadow Global) → own_words table (view (Pool leaf v)) ≡ pool_words table (pool_view leaf).servers
owned_pool table leaf v = ap (own_words table) (view-Pool leaf v)

pub owned_null : (table : List (List ℕ)) → own_words table (view Null) ≡ []
owned_null table = ap (own_words table) view-Null

pub owned_error : (table : List (List ℕ)) → own_words table (view Error) ≡ []
owned_error table = ap (own_words table) view-Error

pub owned_many : (table : List (List ℕ)) (kind : Kind) (v : Vec Route Global) → own_words table (view (Many kind v)) ≡ []
owned_many table kind v = ap (own_words table) (view-Many kind v)

pub owned_warm_up : (table : List (List ℕ)) (cold warm : Box Route Global) (exptime : ℕ) → own_words table (view (WarmUp cold warm exptime)) ≡ exptime_words exptime
owned_warm_up table cold warm exptime = ap (own_words table) (view-WarmUp cold warm exptime)

pub owned_migrate : (table : List (List ℕ)) (from to : Box Route Global) (start interval : ℕ) → own_words table (view (Migrate from to start interval)) ≡ migration_words start interval
owned_migrate table from to start interval = ap (own_words table) (view-Migrate from to start interval)

pub owned_prefix_selector : (table : List (List ℕ)) (v : Vec PrefixPolicy Global) (d : Option (Box Route Global)) → own_words table (view (PrefixSelector v d)) ≡ []
owned_prefix_selector table v d = ap (own_words table) (view-PrefixSelector v d)

pub owned_operation_selector : (table : List (List ℕ)) (v : Vec OperationPolicy Global) (d : Option (Box Route Global)) → own_words table (view (OperationSelector v d)) ≡ []
owned_operation_selector table v d = ap (own_words table) (view-OperationSelector v d)

-- ---- edges

pub worded_pool : (leaf : Leaf) (v : Vec Shadow Global) (k : ℕ) → child_word (view (Pool leaf v)) k ≡ shadow_word (slice_get (map (λ s. s.0) (map shadow_view v.items)) k)
worded_pool leaf v k = ap (λ (t : Tree). child_word t k) (view-Pool leaf v)

pub worded_null : (k : ℕ) → child_word (view Null) k ≡ decimal k
worded_null k = ap (λ (t : Tree). child_word t k) view-Null

pub worded_error : (k : ℕ) → child_word (view Error) k ≡ decimal k
worded_error k = ap (λ (t : Tree). child_word t k) view-Error

pub worded_many : (kind : Kind) (v : Vec Route Global) (k : ℕ) → child_word (view (Many kind v)) k ≡ decimal k
worded_many kind v k = ap (λ (t : Tree). child_word t k) (view-Many kind v)

pub worded_warm_up : (cold warm : Box Route Global) (exptime : ℕ) (k : ℕ) → child_word (view (WarmUp cold warm exptime)) k ≡ (if k == 1 then codes "warm" else codes "cold")
worded_warm_up cold warm exptime k = ap (λ (t : Tree). child_word t k) (view-WarmUp cold warm exptime)

pub worded_migrate : (from to : Box Route Global) (start interval : ℕ) (k : ℕ) → child_word (view (Migrate from to start interval)) k ≡ (if k == 0 then codes "from" else codes "to")
worded_migrate from to start interval k = ap (λ (t : Tree). child_word t k) (view-Migrate from to start interval)

pub worded_prefix_selector : (v : Vec PrefixPolicy Global) (d : Option (Box Route Global)) (k : ℕ) → child_word (view (PrefixSelector v d)) k ≡ prefix_word (slice_get (map (λ p. p.0) (map prefix_view v.items)) k)
worded_prefix_selector v d k = ap (λ (t : Tree). child_word t k) (view-PrefixSelector v d)

pub worded_operation_selector : (v : Vec OperationPolicy Global) (d : Option (Box Route Global)) (k : ℕ) → child_word (view (OperationSelector v d)) k ≡ operation_word (slice_get (map (λ p. p.0) (map operation_view v.items)) k)
worded_operation_selector v d k = ap (λ (t : Tree). child_word t k) (view-OperationSelector v d)

-- ---- servers

-- the numbers of the first four servers
first_numbers : (ids : List ServerId) → map (λ s. s.0) (take (min (length ids) 4) ids) ≡ take 4 (map (λ s. s.0) ids)
first_numbers [] = refl
first_numbers (a ∷ []) = refl
first_numbers (a ∷ b ∷ []) = refl
first_numbers (a ∷ b ∷ c ∷ []) = refl
first_numbers (a ∷ b ∷ c ∷ d ∷ rest) =
    let four : min (length (a ∷ b ∷ c ∷ d ∷ rest)) 4 ≡ 4 = omega arith in
    ap (λ (n : ℕ). map (λ (s : ServerId). s.0) (take n (a ∷ b ∷ c ∷ d ∷ rest))) four

pub first_four : (ids : List ServerId) (n : ℕ) → n ≡ min (length ids) 4 → map (λ s. s.0) (take n ids) ≡ take 4 (map (λ s. s.0) ids)
first_four ids n is = ap (λ (k : ℕ). map (λ (s : ServerId). s.0) (take k ids)) is ∙ first_numbers ids

-- ---- policies and shadows by their numbers

-- a part of what is found, in steps
by_steps : {X Y Z : Type 0} (f : X → Y) (g : Y → Z) (o : Option (Bor X)) → option_map (λ (x : Bor X). g (f x.now)) o ≡ option_map g (option_map f (option_map (λ (x : Bor X). x.now) o))
by_steps f g None = refl
by_steps f g (Some x) = refl

-- what is found at a place of a list, by a part of it
got_part : {X Y Z : Type 0} (f : X → Y) (g : Y → Z) (xs : List X) (k : ℕ) (got : Option (Bor X)) → IsItemAt xs k got → option_map (λ (x : Bor X). g (f x.now)) got ≡ slice_get (map g (map f xs)) k
got_part f g xs k got is =
    by_steps f g got ∙ (ap (λ o. option_map g (option_map f o)) (leg_at xs k got is) ∙ (ap (λ o. option_map g o) (sym (slice_get-map f xs k)) ∙ sym (slice_get-map g (map f xs) k)))

pub shadow_there : (route : Route) (leaf : Leaf) (v : Vec Shadow Global) (items : List Shadow) (k : ℕ) (got : Option (Bor Shadow)) → route ≡ Pool leaf v → items ≡ v.items → IsItemAt items k got
    → shadow_word (option_map (λ s. (shadow_view s.now).0) got) ≡ child_word (view route) k
shadow_there route leaf v items k got is same there =
    ap shadow_word (got_part shadow_view (λ s. s.0) items k got there)
    ∙ (ap (λ (xs : List Shadow). shadow_word (slice_get (map (λ s. s.0) (map shadow_view xs)) k)) same
    ∙ (sym (worded_pool leaf v k) ∙ ap (λ (r : Route). child_word (view r) k) (sym is)))

pub prefix_there : (route : Route) (v : Vec PrefixPolicy Global) (d : Option (Box Route Global)) (items : List PrefixPolicy) (k : ℕ) (got : Option (Bor PrefixPolicy)) → route ≡ PrefixSelector v d
    → items ≡ v.items → IsItemAt items k got → prefix_word (option_map (λ p. (prefix_view p.now).0) got) ≡ child_word (view route) k
prefix_there route v d items k got is same there =
    ap prefix_word (got_part prefix_view (λ p. p.0) items k got there)
    ∙ (ap (λ (xs : List PrefixPolicy). prefix_word (slice_get (map (λ p. p.0) (map prefix_view xs)) k)) same
    ∙ (sym (worded_prefix_selector v d k) ∙ ap (λ (r : Route). child_word (view r) k) (sym is)))

pub operation_there : (route : Route) (v : Vec OperationPolicy Global) (d : Option (Box Route Global)) (items : List OperationPolicy) (k : ℕ) (got : Option (Bor OperationPolicy)) → route ≡ OperationSelector v d
    → items ≡ v.items → IsItemAt items k got → operation_word (option_map (λ p. (operation_view p.now).0) got) ≡ child_word (view route) k
operation_there route v d items k got is same there =
    ap operation_word (got_part operation_view (λ p. p.0) items k got there)
    ∙ (ap (λ (xs : List OperationPolicy). operation_word (slice_get (map (λ p. p.0) (map operation_view xs)) k)) same
    ∙ (sym (worded_operation_selector v d k) ∙ ap (λ (r : Route). child_word (view r) k) (sym is)))

-- ---- parts of them

pub shadow_first : (s : Shadow) → (shadow_view s).0.first ≡ (out-Shadow s).first
shadow_first s = ap (λ (v : ShadowView). v.0.first) (shadow_view-out s)

pub shadow_last : (s : Shadow) → (shadow_view s).0.last ≡ (out-Shadow s).last
shadow_last s = ap (λ (v : ShadowView). v.0.last) (shadow_view-out s)

pub policy_prefix : (p : PrefixPolicy) → (prefix_view p).0 ≡ (out-PrefixPolicy p).«prefix».items
policy_prefix p = ap (λ (v : PrefixView). v.0) (prefix_view-out p)

pub policy_operation : (p : OperationPolicy) → (operation_view p).0 ≡ (out-OperationPolicy p).op
policy_operation p = ap (λ (v : OperationView). v.0) (operation_view-out p)
