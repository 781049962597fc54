-- The longest policy prefix of a selector: of its own prefixes, of its policies, and of what comes after them.
use Rattle.std.proofs.Common.{◌≡◌, ℕ, List, [], ◌∷◌, ◌++◌, map, Vec, Box, Global, Option, refl, sym, ap, ap₂, ◌∙◌}
use Rattle.mcv_route.proofs.Views.{view-OperationSelector, view-PrefixSelector}
use Rattle.mcv_route.specs.Tree.{Tree}
use Rattle.mcv_route.specs.View.{last_view, operation_view, prefix_view, trees_of, view}
use Rattle.mcv_route.specs.declared.tree.OperationPolicy.{OperationPolicy}
use Rattle.mcv_route.specs.declared.tree.PrefixPolicy.{PrefixPolicy}
use Rattle.mcv_route.specs.declared.tree.Route.{Route, OperationSelector, PrefixSelector}
use Rattle.mcv_rules.specs.PlanInMemory.{prefixes_of}
use Rattle.mcv_witness.specs.LongestWord.{longest_below, longest_in, longest_of}

below-append : (rest : List ℕ) (ts us : List Tree) (most : ℕ) → longest_below most rest (trees_of (ts ++ us)) ≡ longest_below (longest_below most rest (trees_of ts)) rest (trees_of us)
below-append rest [] us most = refl
below-append rest (t ∷ ts) us most = below-append rest ts us (longest_in most rest t)

abbrev selected_of : List PrefixPolicy → List Tree
selected_of policies = map (λ p. p.1) (map prefix_view policies)

abbrev policies_of : List OperationPolicy → List Tree
policies_of policies = map (λ p. p.1) (map operation_view policies)

module _ (rest : List ℕ) (most : ℕ) where
  pub prefix-longest : (route : Route) (v : Vec PrefixPolicy Global) (d : Option (Box Route Global)) (xs ys : List PrefixPolicy) (own selected all : ℕ) → route ≡ PrefixSelector v d → xs ≡ v.items → ys ≡ v.items
      → own ≡ longest_of most rest (prefixes_of xs) → selected ≡ longest_below own rest (trees_of (map (λ p. p.1) (map prefix_view ys))) → all ≡ longest_below selected rest (trees_of (last_view d)) → all ≡ longest_in most rest (view route)
  prefix-longest route v d xs ys own selected all is x y own-is selected-is all-is =
      let mine : own ≡ longest_of most rest (prefixes_of v.items) = own-is ∙ ap (λ zs. longest_of most rest (prefixes_of zs)) x in
      let before : selected ≡ longest_below (longest_of most rest (prefixes_of v.items)) rest (trees_of (selected_of v.items)) =
      selected-is ∙ ap₂ (λ n zs. longest_below n rest (trees_of (selected_of zs))) mine y in
      all-is ∙ ap (λ n. longest_below n rest (trees_of (last_view d))) before
      ∙ sym (ap (λ u. longest_in most rest (view u)) is ∙ ap (longest_in most rest) (view-PrefixSelector v d) ∙ below-append rest (selected_of v.items) (last_view d) (longest_of most rest (prefixes_of v.items)))

  pub operation-longest : (route : Route) (v : Vec OperationPolicy Global) (d : Option (Box Route Global)) (xs : List OperationPolicy) (selected all : ℕ) → route ≡ OperationSelector v d → xs ≡ v.items
      → selected ≡ longest_below most rest (trees_of (map (λ p. p.1) (map operation_view xs))) → all ≡ longest_below selected rest (trees_of (last_view d)) → all ≡ longest_in most rest (view route)
  operation-longest route v d xs selected all is x selected-is all-is =
      let before : selected ≡ longest_below most rest (trees_of (policies_of v.items)) = selected-is ∙ ap (λ zs. longest_below most rest (trees_of (policies_of zs))) x in
      all-is ∙ ap (λ n. longest_below n rest (trees_of (last_view d))) before
      ∙ sym (ap (λ u. longest_in most rest (view u)) is ∙ ap (longest_in most rest) (view-OperationSelector v d) ∙ below-append rest (policies_of v.items) (last_view d) most)
