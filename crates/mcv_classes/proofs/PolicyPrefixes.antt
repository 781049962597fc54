-- The policy prefixes of a route, one level at a time.
use Rattle.std.proofs.Common.{◌≡◌, ℕ, ◌+◌, ◌<◌, List, [], ◌∷◌, ◌++◌, length, map, take, get_or, Vec, Box, Global, Option, refl, ap, sym, ◌∙◌, append-nil, append_assoc}
use Rattle.std.proofs.lemmas.Simd.{map-map}
use Rattle.mcv_route.specs.Tree.{Tree}
use Rattle.mcv_route.specs.View.{view, operation_view, prefix_view, trees_of, last_view}
use Rattle.mcv_route.specs.declared.tree.OperationPolicy.{OperationPolicy}
use Rattle.mcv_route.specs.declared.tree.PrefixPolicy.{PrefixPolicy}
use Rattle.mcv_route.specs.declared.tree.Route.{Route, PrefixSelector, OperationSelector}
use Rattle.mcv_route.proofs.Building.{map-more}
use Rattle.mcv_route.proofs.Views.{view-PrefixSelector, view-OperationSelector}
use Rattle.mcv_classes.specs.Words.{prefixes_below, prefixes_in}

prefixes_below-append : (ts us : List Tree) → prefixes_below (trees_of (ts ++ us)) ≡ prefixes_below (trees_of ts) ++ prefixes_below (trees_of us)
prefixes_below-append [] us = refl
prefixes_below-append (t ∷ ts) us = ap (λ ws. prefixes_in t ++ ws) (prefixes_below-append ts us) ∙ sym (append_assoc (prefixes_in t) (prefixes_below (trees_of ts)) (prefixes_below (trees_of us)))

-- one more of them
prefixes_below-push : (ts : List Tree) (t : Tree) → prefixes_below (trees_of (ts ++ t ∷ [])) ≡ prefixes_below (trees_of ts) ++ prefixes_in t
prefixes_below-push ts t = prefixes_below-append ts (t ∷ []) ∙ ap (λ ws. prefixes_below (trees_of ts) ++ ws) (append-nil (prefixes_in t))

-- those of one more item, after those of the items before it
pub words-more : {M : Type 0} (tree : M → Tree) (items : List M) (i : ℕ) (item : M) (start before now : List (List ℕ)) → i < length items → item ≡ get_or items i item
    → before ≡ start ++ prefixes_below (trees_of (map tree (take i items))) → now ≡ before ++ prefixes_in (tree item) → now ≡ start ++ prefixes_below (trees_of (map tree (take (i + 1) items)))
words-more tree items i item start before now h is so_far more =
    let done = prefixes_below (trees_of (map tree (take i items))) in
    more ∙ ap (λ ws. ws ++ prefixes_in (tree item)) so_far ∙ append_assoc start done (prefixes_in (tree item))
    ∙ ap (λ ws. start ++ ws) (sym (ap (λ ts. prefixes_below (trees_of ts)) (map-more tree items i item h is) ∙ prefixes_below-push (map tree (take i items)) (tree item)))

-- the same of an item that has its route beside something
pub words-more-of : {M A : Type 0} (made : M → A × Tree) (items : List M) (i : ℕ) (item : M) (beside : A) (x : Tree) (start before now : List (List ℕ)) → i < length items → item ≡ get_or items i item → made item ≡ (beside, x)
    → before ≡ start ++ prefixes_below (trees_of (map (λ p. p.1) (map made (take i items)))) → now ≡ before ++ prefixes_in x → now ≡ start ++ prefixes_below (trees_of (map (λ p. p.1) (map made (take (i + 1) items))))
words-more-of made items i item beside x start before now h is made-is so_far more =
    let shown : now ≡ before ++ prefixes_in (made item).1 = more ∙ ap (λ p. before ++ prefixes_in p.1) (sym made-is) in
    let each : now ≡ start ++ prefixes_below (trees_of (map (λ y. (made y).1) (take (i + 1) items))) =
    words-more (λ y. (made y).1) items i item start before now h is (so_far ∙ ap (λ ts. start ++ prefixes_below (trees_of ts)) (map-map (λ p. p.1) made (take i items))) shown in
    each ∙ ap (λ ts. start ++ prefixes_below (trees_of ts)) (sym (map-map (λ p. p.1) made (take (i + 1) items)))

-- those of the selector itself, of its policies, and of what comes after them
pub prefixes-of-PrefixSelector : (route : Route) (v : Vec PrefixPolicy Global) (d : Option (Box Route Global)) (policies again : List PrefixPolicy) (start own before : List (List ℕ)) → route ≡ PrefixSelector v d → policies ≡ v.items → again ≡ v.items
    → own ≡ start ++ map (λ p. p.0) (map prefix_view policies) → before ≡ own ++ prefixes_below (trees_of (map (λ p. p.1) (map prefix_view again))) → before ++ prefixes_below (trees_of (last_view d)) ≡ start ++ prefixes_in (view route)
prefixes-of-PrefixSelector route v d policies again start own before is same too own-is so_far =
    let mine : List PrefixPolicy → List (List ℕ) = λ ps. map (λ p. p.0) (map prefix_view ps) in
    let each : List PrefixPolicy → List (List ℕ) = λ ps. prefixes_below (trees_of (map (λ p. p.1) (map prefix_view ps))) in
    let last : List (List ℕ) = prefixes_below (trees_of (last_view d)) in
    let joined : before ≡ (start ++ mine v.items) ++ each v.items = so_far ∙ (λ i. own-is i ++ each (too i)) ∙ ap (λ ps. (start ++ mine ps) ++ each v.items) same in
    let whole : prefixes_in (view route) ≡ mine v.items ++ (each v.items ++ last) =
    ap (λ r. prefixes_in (view r)) is ∙ ap prefixes_in (view-PrefixSelector v d) ∙ ap (λ ws. mine v.items ++ ws) (prefixes_below-append (map (λ p. p.1) (map prefix_view v.items)) (last_view d)) in
    ap (λ ws. ws ++ last) joined ∙ append_assoc (start ++ mine v.items) (each v.items) last ∙ append_assoc start (mine v.items) (each v.items ++ last) ∙ ap (λ ws. start ++ ws) (sym whole)

pub prefixes-of-OperationSelector : (route : Route) (v : Vec OperationPolicy Global) (d : Option (Box Route Global)) (policies : List OperationPolicy) (start before : List (List ℕ)) → route ≡ OperationSelector v d → policies ≡ v.items
    → before ≡ start ++ prefixes_below (trees_of (map (λ p. p.1) (map operation_view policies))) → before ++ prefixes_below (trees_of (last_view d)) ≡ start ++ prefixes_in (view route)
prefixes-of-OperationSelector route v d policies start before is same so_far =
    let each : List OperationPolicy → List (List ℕ) = λ ps. prefixes_below (trees_of (map (λ p. p.1) (map operation_view ps))) in
    let last : List (List ℕ) = prefixes_below (trees_of (last_view d)) in
    let whole : prefixes_in (view route) ≡ each v.items ++ last = ap (λ r. prefixes_in (view r)) is ∙ ap prefixes_in (view-OperationSelector v d) ∙ prefixes_below-append (map (λ p. p.1) (map operation_view v.items)) (last_view d) in
    ap (λ ws. ws ++ last) (so_far ∙ ap (λ ps. start ++ each ps) same) ∙ append_assoc start (each v.items) last ∙ ap (λ ws. start ++ ws) (sym whole)
