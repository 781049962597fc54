-- What is below a handle, and its breaks.
use Rattle.std.proofs.Common.{◌≡◌, ◌≢◌, ℕ, zero, suc, ◌+◌, ◌<◌, ◌≤◌, List, [], ◌∷◌, ◌++◌, length, map, take, get_or, Bor, Vec, Box, Global, Option, Some, None, option_map, refl, ap, sym, ◌∙◌, arith, append-nil, append_assoc}
use Rattle.std.specs.Prelude.{slice_get}
use Rattle.std.specs.Slice.{IsItemAt}
use Rattle.std.specs.List.{flat_map}
use Rattle.std.proofs.lemmas.Option.{slice_get-map, slice_get-get_or, slice_get_past}
use Rattle.std.proofs.lemmas.List.{length-map}
use Rattle.std.proofs.lemmas.List.Concat.{flat_map-append}
use Rattle.std.proofs.lemmas.Simd.{map-map}
use Rattle.mcv_names.specs.declared.handle.Many.{Many as Kind}
use Rattle.mcv_route.specs.Eras.{breaks, breaks_each}
use Rattle.mcv_route.specs.Places.{child_at, children_of}
use Rattle.mcv_route.specs.RoutesView.{entry_view}
use Rattle.mcv_route.specs.Tree.{Tree, none, child}
use Rattle.mcv_route.specs.View.{view, operation_view, prefix_view, shadow_view, trees_of, last_view}
use Rattle.mcv_route.specs.declared.routes.AliasedRoute.{AliasedRoute}
use Rattle.mcv_route.specs.declared.tree.Leaf.{Leaf}
use Rattle.mcv_route.specs.declared.tree.OperationPolicy.{OperationPolicy}
use Rattle.mcv_route.specs.declared.tree.PrefixPolicy.{PrefixPolicy}
use Rattle.mcv_route.specs.declared.tree.Shadow.{Shadow}
use Rattle.mcv_route.specs.declared.tree.Route.{Route, Pool, Null, Error, Many, WarmUp, Migrate, PrefixSelector, OperationSelector}
use Rattle.mcv_route.proofs.Building.{map-more}
use Rattle.mcv_route.proofs.Views.{targets_of, children_view, view-Pool, view-Null, view-Error, view-Many, view-WarmUp, view-Migrate, view-PrefixSelector, view-OperationSelector}

-- what `get` of a slice borrows
pub borrowed-at : {X Y : Type 0} (f : X → Y) (xs : List X) (i : ℕ) (r : Option (Bor X)) → IsItemAt xs i r → option_map (λ x. f x.now) r ≡ option_map f (slice_get xs i)
borrowed-at f xs i None h = ap (option_map f) (sym (slice_get_past xs i h.3))
borrowed-at f xs i (Some x) h = ap (option_map f) (sym (slice_get-get_or xs i x.now h.3.0 ∙ ap Some (sym h.1)))

-- ---- children by their numbers

child_at-trees_of : (ts : List Tree) (k : ℕ) → child_at (trees_of ts) k ≡ slice_get ts k
child_at-trees_of [] k = refl
child_at-trees_of (t ∷ ts) zero = refl
child_at-trees_of (t ∷ ts) (suc k) = child_at-trees_of ts k

pub child_at-Pool : (leaf : Leaf) (v : Vec Shadow Global) (k : ℕ) → child_at (children_of (view (Pool leaf v))) k ≡ slice_get (map (λ s. s.1) (map shadow_view v.items)) k
child_at-Pool leaf v k = ap (λ t. child_at (children_of t) k) (view-Pool leaf v) ∙ child_at-trees_of (map (λ s. s.1) (map shadow_view v.items)) k

pub child_at-Null : (k : ℕ) → child_at (children_of (view Null)) k ≡ None
child_at-Null k = ap (λ t. child_at (children_of t) k) view-Null

pub child_at-Error : (k : ℕ) → child_at (children_of (view Error)) k ≡ None
child_at-Error k = ap (λ t. child_at (children_of t) k) view-Error

pub child_at-Many : (kind : Kind) (v : Vec Route Global) (k : ℕ) → child_at (children_of (view (Many kind v))) k ≡ option_map view (slice_get v.items k)
child_at-Many kind v k = ap (λ t. child_at (children_of t) k) (view-Many kind v) ∙ child_at-trees_of (map view v.items) k ∙ slice_get-map view v.items k

pub child_at-WarmUp : (cold warm : Box Route Global) (exptime k : ℕ)
    → child_at (children_of (view (WarmUp cold warm exptime))) k ≡ child_at (child (view cold.value) (child (view warm.value) (child (view cold.value) none))) k
child_at-WarmUp cold warm exptime k = ap (λ t. child_at (children_of t) k) (view-WarmUp cold warm exptime)

pub child_at-Migrate : (from to : Box Route Global) (start interval k : ℕ)
    → child_at (children_of (view (Migrate from to start interval))) k ≡ child_at (child (view from.value) (child (view to.value) none)) k
child_at-Migrate from to start interval k = ap (λ t. child_at (children_of t) k) (view-Migrate from to start interval)

pub child-of-WarmUp : (route : Route) (cold warm : Box Route Global) (exptime k : ℕ) (a b : Route) (found : Option Tree) → route ≡ WarmUp cold warm exptime → a ≡ cold.value → b ≡ warm.value
    → found ≡ child_at (child (view a) (child (view b) (child (view a) none))) k → found ≡ child_at (children_of (view route)) k
child-of-WarmUp route cold warm exptime k a b found is a-is b-is h =
    h ∙ (λ i. child_at (child (view (a-is i)) (child (view (b-is i)) (child (view (a-is i)) none))) k) ∙ sym (child_at-WarmUp cold warm exptime k) ∙ ap (λ t. child_at (children_of (view t)) k) (sym is)

pub child-of-Migrate : (route : Route) (from to : Box Route Global) (start interval k : ℕ) (a b : Route) (found : Option Tree) → route ≡ Migrate from to start interval → a ≡ from.value → b ≡ to.value
    → found ≡ child_at (child (view a) (child (view b) none)) k → found ≡ child_at (children_of (view route)) k
child-of-Migrate route from to start interval k a b found is a-is b-is h =
    h ∙ (λ i. child_at (child (view (a-is i)) (child (view (b-is i)) none)) k) ∙ sym (child_at-Migrate from to start interval k) ∙ ap (λ t. child_at (children_of (view t)) k) (sym is)

pub child_at-PrefixSelector : (v : Vec PrefixPolicy Global) (d : Option (Box Route Global)) (k : ℕ)
    → child_at (children_of (view (PrefixSelector v d))) k ≡ slice_get (map (λ p. p.1) (map prefix_view v.items) ++ last_view d) k
child_at-PrefixSelector v d k =
    ap (λ t. child_at (children_of t) k) (view-PrefixSelector v d) ∙ child_at-trees_of (map (λ p. p.1) (map prefix_view v.items) ++ last_view d) k

pub child_at-OperationSelector : (v : Vec OperationPolicy Global) (d : Option (Box Route Global)) (k : ℕ)
    → child_at (children_of (view (OperationSelector v d))) k ≡ slice_get (map (λ p. p.1) (map operation_view v.items) ++ last_view d) k
child_at-OperationSelector v d k =
    ap (λ t. child_at (children_of t) k) (view-OperationSelector v d) ∙ child_at-trees_of (map (λ p. p.1) (map operation_view v.items) ++ last_view d) k

-- past the sides of a warm-up, and of a migration
pub past-three : (t u v : Tree) (k : ℕ) → k ≢ 0 → k ≢ 1 → k ≢ 2 → None ≡ child_at (child t (child u (child v none))) k
past-three t u v zero a b c = absurd (a refl)
past-three t u v (suc zero) a b c = absurd (b refl)
past-three t u v (suc (suc zero)) a b c = absurd (c refl)
past-three t u v (suc (suc (suc k))) a b c = refl

pub past-two : (t u : Tree) (k : ℕ) → k ≢ 0 → k ≢ 1 → None ≡ child_at (child t (child u none)) k
past-two t u zero a b = absurd (a refl)
past-two t u (suc zero) a b = absurd (b refl)
past-two t u (suc (suc k)) a b = refl

-- ---- routes of shadows and policies, and what comes after them

slice_get-before : (ts us : List Tree) (k : ℕ) → k < length ts → slice_get (ts ++ us) k ≡ slice_get ts k
slice_get-before [] us k h = absurd (omega arith)
slice_get-before (t ∷ ts) us zero h = refl
slice_get-before (t ∷ ts) us (suc k) h = slice_get-before ts us k (omega arith)

slice_get-behind : (ts us : List Tree) → slice_get (ts ++ us) (length ts) ≡ slice_get us 0
slice_get-behind [] us = refl
slice_get-behind (t ∷ ts) us = slice_get-behind ts us

slice_get-past : (ts us : List Tree) (k : ℕ) → length us ≤ 1 → length ts < k → slice_get (ts ++ us) k ≡ None
slice_get-past [] [] k h past = refl
slice_get-past [] (u ∷ []) zero h past = absurd (omega arith)
slice_get-past [] (u ∷ []) (suc k) h past = refl
slice_get-past [] (u ∷ v ∷ us) k h past = absurd (omega arith)
slice_get-past (t ∷ ts) us zero h past = absurd (omega arith)
slice_get-past (t ∷ ts) us (suc k) h past = slice_get-past ts us k h (omega arith)

length-last : (d : Option (Box Route Global)) → length (last_view d) ≤ 1
length-last None = omega arith
length-last (Some b) = omega arith

module _ {M A : Type 0} (made : M → A × Tree) (items : List M) where
  -- the routes of the items
  abbrev pub item_routes : List Tree
  item_routes = map (λ p. p.1) (map made items)

  length-items : length item_routes ≡ length items
  length-items = length-map (map made items) (λ p. p.1) ∙ length-map items made

  pub item-at : (k : ℕ) (item : M) (beside : A) (x : Tree) → k < length items → item ≡ get_or items k item → made item ≡ (beside, x) → Some x ≡ slice_get item_routes k
  item-at k item beside x h is made-is =
      let own : slice_get items k ≡ Some item = slice_get-get_or items k item h ∙ ap Some (sym is) in
      sym (slice_get-map (λ q. q.1) (map made items) k ∙ ap (option_map (λ q. q.1)) (slice_get-map made items k ∙ ap (option_map made) own) ∙ ap (λ q. Some q.1) made-is)

  pub no-item : (k : ℕ) → length items ≤ k → None ≡ slice_get item_routes k
  no-item k h = sym (slice_get_past item_routes k (omega (arith, length-items)))

  pub policy-at : (d : Option (Box Route Global)) (k : ℕ) (item : M) (beside : A) (x : Tree) → k < length items → item ≡ get_or items k item → made item ≡ (beside, x)
      → Some x ≡ slice_get (item_routes ++ last_view d) k
  policy-at d k item beside x h is made-is =
      let inside : k < length item_routes = omega (arith, length-items) in
      item-at k item beside x h is made-is ∙ sym (slice_get-before item_routes (last_view d) k inside)

  pub policy-past : (d : Option (Box Route Global)) (k : ℕ) → length items < k → None ≡ slice_get (item_routes ++ last_view d) k
  policy-past d k h =
      let past : length item_routes < k = omega (arith, length-items) in
      sym (slice_get-past item_routes (last_view d) k (length-last d) past)

  pub policy-last : (d : Option (Box Route Global)) (k : ℕ) → k ≡ length items → slice_get (item_routes ++ last_view d) k ≡ slice_get (last_view d) 0
  policy-last d k h = ap (slice_get (item_routes ++ last_view d)) (h ∙ sym length-items) ∙ slice_get-behind item_routes (last_view d)

-- ---- breaks, one level at a time

breaks_each-append : (ts us : List Tree) → breaks_each (trees_of (ts ++ us)) ≡ breaks_each (trees_of ts) ++ breaks_each (trees_of us)
breaks_each-append [] us = refl
breaks_each-append (t ∷ ts) us = ap (λ bs. breaks t ++ bs) (breaks_each-append ts us) ∙ sym (append_assoc (breaks t) (breaks_each (trees_of ts)) (breaks_each (trees_of us)))

breaks_each-one : (t : Tree) → breaks_each (trees_of (t ∷ [])) ≡ breaks t
breaks_each-one t = append-nil (breaks t)

-- one more of them
pub breaks_each-push : (ts : List Tree) (t : Tree) → breaks_each (trees_of (ts ++ t ∷ [])) ≡ breaks_each (trees_of ts) ++ breaks t
breaks_each-push ts t = breaks_each-append ts (t ∷ []) ∙ ap (λ bs. breaks_each (trees_of ts) ++ bs) (breaks_each-one t)

-- the breaks of one more item, after those of the items before it
pub breaks-more : {M : Type 0} (tree : M → Tree) (items : List M) (i : ℕ) (item : M) (start before now : List ℕ) → i < length items → item ≡ get_or items i item
    → before ≡ start ++ breaks_each (trees_of (map tree (take i items))) → now ≡ before ++ breaks (tree item) → now ≡ start ++ breaks_each (trees_of (map tree (take (i + 1) items)))
breaks-more tree items i item start before now h is so_far more =
    let done = breaks_each (trees_of (map tree (take i items))) in
    more ∙ ap (λ bs. bs ++ breaks (tree item)) so_far ∙ append_assoc start done (breaks (tree item))
    ∙ ap (λ bs. start ++ bs) (sym (ap (λ ts. breaks_each (trees_of ts)) (map-more tree items i item h is) ∙ breaks_each-push (map tree (take i items)) (tree item)))

-- the same of an item that has its route beside something
pub breaks-more-of : {M A : Type 0} (made : M → A × Tree) (items : List M) (i : ℕ) (item : M) (beside : A) (x : Tree) (start before now : List ℕ) → i < length items → item ≡ get_or items i item → made item ≡ (beside, x)
    → before ≡ start ++ breaks_each (trees_of (map (λ p. p.1) (map made (take i items)))) → now ≡ before ++ breaks x → now ≡ start ++ breaks_each (trees_of (map (λ p. p.1) (map made (take (i + 1) items))))
breaks-more-of made items i item beside x start before now h is made-is so_far more =
    let shown : now ≡ before ++ breaks (made item).1 = more ∙ ap (λ p. before ++ breaks p.1) (sym made-is) in
    let each : now ≡ start ++ breaks_each (trees_of (map (λ y. (made y).1) (take (i + 1) items))) =
    breaks-more (λ y. (made y).1) items i item start before now h is (so_far ∙ ap (λ ts. start ++ breaks_each (trees_of ts)) (map-map (λ p. p.1) made (take i items))) shown in
    each ∙ ap (λ ts. start ++ breaks_each (trees_of ts)) (sym (map-map (λ p. p.1) made (take (i + 1) items)))

pub breaks-Pool : (leaf : Leaf) (v : Vec Shadow Global) → breaks (view (Pool leaf v)) ≡ breaks_each (targets_of v.items)
breaks-Pool leaf v = ap breaks (view-Pool leaf v)

pub breaks-Null : breaks (view Null) ≡ []
breaks-Null = ap breaks view-Null

pub breaks-Error : breaks (view Error) ≡ []
breaks-Error = ap breaks view-Error

pub breaks-Many : (kind : Kind) (v : Vec Route Global) → breaks (view (Many kind v)) ≡ breaks_each (children_view v.items)
breaks-Many kind v = ap breaks (view-Many kind v)

pub breaks-PrefixSelector : (v : Vec PrefixPolicy Global) (d : Option (Box Route Global))
    → breaks (view (PrefixSelector v d)) ≡ breaks_each (trees_of (map (λ p. p.1) (map prefix_view v.items))) ++ breaks_each (trees_of (last_view d))
breaks-PrefixSelector v d = ap breaks (view-PrefixSelector v d) ∙ breaks_each-append (map (λ p. p.1) (map prefix_view v.items)) (last_view d)

pub breaks-OperationSelector : (v : Vec OperationPolicy Global) (d : Option (Box Route Global))
    → breaks (view (OperationSelector v d)) ≡ breaks_each (trees_of (map (λ p. p.1) (map operation_view v.items))) ++ breaks_each (trees_of (last_view d))
breaks-OperationSelector v d = ap breaks (view-OperationSelector v d) ∙ breaks_each-append (map (λ p. p.1) (map operation_view v.items)) (last_view d)

-- those of the policies, and then of what comes after them
pub breaks-of-PrefixSelector : (route : Route) (v : Vec PrefixPolicy Global) (d : Option (Box Route Global)) (policies : List PrefixPolicy) (start before : List ℕ) → route ≡ PrefixSelector v d → policies ≡ v.items
    → before ≡ start ++ breaks_each (trees_of (map (λ p. p.1) (map prefix_view policies))) → before ++ breaks_each (trees_of (last_view d)) ≡ start ++ breaks (view route)
breaks-of-PrefixSelector route v d policies start before is same so_far =
    let each : List PrefixPolicy → List ℕ = λ ps. breaks_each (trees_of (map (λ p. p.1) (map prefix_view ps))) in
    let last : List ℕ = breaks_each (trees_of (last_view d)) in
    ap (λ bs. bs ++ last) so_far ∙ append_assoc start (each policies) last ∙ ap (λ ps. start ++ (each ps ++ last)) same
    ∙ ap (λ bs. start ++ bs) (sym (breaks-PrefixSelector v d)) ∙ ap (λ r. start ++ breaks (view r)) (sym is)

-- those of the policies, and then of what comes after them
pub breaks-of-OperationSelector : (route : Route) (v : Vec OperationPolicy Global) (d : Option (Box Route Global)) (policies : List OperationPolicy) (start before : List ℕ) → route ≡ OperationSelector v d → policies ≡ v.items
    → before ≡ start ++ breaks_each (trees_of (map (λ p. p.1) (map operation_view policies))) → before ++ breaks_each (trees_of (last_view d)) ≡ start ++ breaks (view route)
breaks-of-OperationSelector route v d policies start before is same so_far =
    let each : List OperationPolicy → List ℕ = λ ps. breaks_each (trees_of (map (λ p. p.1) (map operation_view ps))) in
    let last : List ℕ = breaks_each (trees_of (last_view d)) in
    ap (λ bs. bs ++ last) so_far ∙ append_assoc start (each policies) last ∙ ap (λ ps. start ++ (each ps ++ last)) same
    ∙ ap (λ bs. start ++ bs) (sym (breaks-OperationSelector v d)) ∙ ap (λ r. start ++ breaks (view r)) (sym is)

-- those of one more entry
pub entry-breaks-more : (entries : List AliasedRoute) (i : ℕ) (entry : AliasedRoute) (before now : List ℕ) → i < length entries → entry ≡ get_or entries i entry
    → before ≡ flat_map (λ e. breaks e.tree) (map entry_view (take i entries)) → now ≡ before ++ breaks (view entry.route) → now ≡ flat_map (λ e. breaks e.tree) (map entry_view (take (i + 1) entries))
entry-breaks-more entries i entry before now h is so_far more =
    more ∙ ap (λ bs. bs ++ breaks (view entry.route)) so_far
    ∙ ap (λ bs. flat_map (λ e. breaks e.tree) (map entry_view (take i entries)) ++ bs) (sym (append-nil (breaks (view entry.route))))
    ∙ sym (flat_map-append (λ e. breaks e.tree) (map entry_view (take i entries)) (entry_view entry ∷ []))
    ∙ ap (flat_map (λ e. breaks e.tree)) (sym (map-more entry_view entries i entry h is))
