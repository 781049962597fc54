-- The walk over a selector is that over the child that it chooses.
use Rattle.std.proofs.Common.{◌≡◌, ◌<◌, ◌≤◌, Box, ℕ, zero, suc, List, [], ◌∷◌, length, get_or, Vec, Global, Option, Some, None, refl, sym, ap, ◌∙◌, arith}
use Rattle.mcv_base.specs.declared.reply.Outcome.TheVariants.{Error}
use Rattle.mcv_route.specs.Children.{policy_of, prefix_policy}
use Rattle.mcv_route.specs.Outcomes.{Choice}
use Rattle.mcv_route.specs.Situation.{Situation}
use Rattle.mcv_route.specs.Tree.{Tree}
use Rattle.mcv_route.specs.View.{view, prefix_view, operation_view, trees_of, last_view}
use Rattle.mcv_route.specs.declared.tree.OperationPolicy.{OperationPolicy, out-OperationPolicy}
use Rattle.mcv_route.specs.declared.tree.PrefixPolicy.{PrefixPolicy, out-PrefixPolicy}
use Rattle.mcv_route.specs.declared.tree.Route.{Route, PrefixSelector, OperationSelector}
use Rattle.mcv_route.proofs.Views.{prefix_view-out, operation_view-out, view-PrefixSelector, view-OperationSelector}
use Rattle.mcv_rules.specs.PlanInMemory.{operations_of, prefixes_of}
use Rattle.mcv_rules.proofs.ChoosingHandles.{routes_before, policy_at, last_at, length-routes, policy_of-le, prefix_policy-le, length-prefixes}
use Rattle.mcv_witness.specs.Walk.{Known, at_once, finish, only, only_nth, pass, pass_each}

module _ (leaf : List ℕ) (server : ℕ) (c : Choice) (s : Situation) (k : Known) where
  -- ---- the chosen child

  chosen : (ts : List Tree) (n j : ℕ) (t : Tree) → j < length ts → t ≡ get_or ts j t → only_nth n (pass_each leaf server c (trees_of ts) s) j k ≡ only (pass leaf server c t s) n k
  chosen [] n j t h is = absurd (omega (arith, h))
  chosen (u ∷ ts) n zero t h is = ap (λ v. only (pass leaf server c v s) n k) (sym is)
  chosen (u ∷ ts) n (suc j) t h is = chosen ts n j t (omega (arith, h)) is

  unchosen : (ts : List Tree) (n j : ℕ) → length ts ≤ j → only_nth n (pass_each leaf server c (trees_of ts) s) j k ≡ finish (at_once Error) k.legs
  unchosen [] n j h = refl
  unchosen (u ∷ ts) n zero h = absurd (omega (arith, h))
  unchosen (u ∷ ts) n (suc j) h = unchosen ts n j (omega (arith, h))

  policy-pass : {A P : Type 0} (g : P → A × Tree) (policies : List P) (more : List Tree) (n : ℕ) (policy : P) → n < length policies → policy ≡ get_or policies n policy
      → only_nth n (pass_each leaf server c (trees_of (routes_before g policies more)) s) n k ≡ only (pass leaf server c (g policy).1 s) n k
  policy-pass g policies more n policy h is = chosen (routes_before g policies more) n n (g policy).1 (omega (arith, h, length-routes g policies more)) (policy_at g policies more n policy h is)

  last-pass : {A P : Type 0} (g : P → A × Tree) (policies : List P) (t : Tree) (n : ℕ) → n ≡ length policies
      → only_nth n (pass_each leaf server c (trees_of (routes_before g policies (t ∷ []))) s) n k ≡ only (pass leaf server c t s) n k
  last-pass g policies t n last =
      chosen (routes_before g policies (t ∷ [])) n n t (omega (arith, last, length-routes g policies (t ∷ [])))
      (last_at g policies t ∙ ap (λ i. get_or (routes_before g policies (t ∷ [])) i t) (sym last))

  no-pass : {A P : Type 0} (g : P → A × Tree) (policies : List P) (n : ℕ) → length policies ≤ n → only_nth n (pass_each leaf server c (trees_of (routes_before g policies [])) s) n k ≡ finish (at_once Error) k.legs
  no-pass g policies n h = unchosen (routes_before g policies []) n n (omega (arith, h, length-routes g policies []))

  -- ---- operations

  operations-pass : (policies : Vec OperationPolicy Global) (default : Option (Box Route Global)) (n : ℕ) → n ≡ policy_of s.op (operations_of policies.items)
      → pass leaf server c (view (OperationSelector policies default)) s k ≡ only_nth n (pass_each leaf server c (trees_of (routes_before operation_view policies.items (last_view default))) s) n k
  operations-pass policies default n e =
      ap (λ t. pass leaf server c t s k) (view-OperationSelector policies default)
      ∙ ap (λ i. only_nth i (pass_each leaf server c (trees_of (routes_before operation_view policies.items (last_view default))) s) i k) (sym e)

  pub operation-pass : (policies : Vec OperationPolicy Global) (default : Option (Box Route Global)) (n : ℕ) (policy : OperationPolicy) → n ≡ policy_of s.op (operations_of policies.items) → n < length policies.items → policy ≡ get_or policies.items n policy
      → only (pass leaf server c (view (out-OperationPolicy policy).route) s) n k ≡ pass leaf server c (view (OperationSelector policies default)) s k
  operation-pass policies default n policy e h is =
      sym (operations-pass policies default n e ∙ policy-pass operation_view policies.items (last_view default) n policy h is ∙ ap (λ v. only (pass leaf server c v.1 s) n k) (operation_view-out policy))

  pub default-pass : (policies : Vec OperationPolicy Global) (route : Box Route Global) (n : ℕ) → n ≡ policy_of s.op (operations_of policies.items) → length policies.items ≤ n
      → only (pass leaf server c (view route.value) s) n k ≡ pass leaf server c (view (OperationSelector policies (Some route))) s k
  default-pass policies route n e h =
      let last : n ≡ length policies.items = omega (arith, e, h, policy_of-le s.op policies.items) in
      sym (operations-pass policies (Some route) n e ∙ last-pass operation_view policies.items (view route.value) n last)

  pub no_default-pass : (policies : Vec OperationPolicy Global) (n : ℕ) → n ≡ policy_of s.op (operations_of policies.items) → length policies.items ≤ n → finish (at_once Error) k.legs ≡ pass leaf server c (view (OperationSelector policies None)) s k
  no_default-pass policies n e h = sym (operations-pass policies None n e ∙ no-pass operation_view policies.items n h)

  -- ---- prefixes

  prefixes-pass : (policies : Vec PrefixPolicy Global) (wildcard : Option (Box Route Global)) (n : ℕ) → n ≡ prefix_policy s.rest (prefixes_of policies.items)
      → pass leaf server c (view (PrefixSelector policies wildcard)) s k ≡ only_nth n (pass_each leaf server c (trees_of (routes_before prefix_view policies.items (last_view wildcard))) s) n k
  prefixes-pass policies wildcard n e =
      ap (λ t. pass leaf server c t s k) (view-PrefixSelector policies wildcard)
      ∙ ap (λ i. only_nth i (pass_each leaf server c (trees_of (routes_before prefix_view policies.items (last_view wildcard))) s) i k) (sym e)

  pub prefix-pass : (policies : Vec PrefixPolicy Global) (wildcard : Option (Box Route Global)) (n : ℕ) (policy : PrefixPolicy) → n ≡ prefix_policy s.rest (prefixes_of policies.items) → n < length policies.items → policy ≡ get_or policies.items n policy
      → only (pass leaf server c (view (out-PrefixPolicy policy).route) s) n k ≡ pass leaf server c (view (PrefixSelector policies wildcard)) s k
  prefix-pass policies wildcard n policy e h is =
      sym (prefixes-pass policies wildcard n e ∙ policy-pass prefix_view policies.items (last_view wildcard) n policy h is ∙ ap (λ v. only (pass leaf server c v.1 s) n k) (prefix_view-out policy))

  pub wildcard-pass : (policies : Vec PrefixPolicy Global) (route : Box Route Global) (n : ℕ) → n ≡ prefix_policy s.rest (prefixes_of policies.items) → length policies.items ≤ n
      → only (pass leaf server c (view route.value) s) n k ≡ pass leaf server c (view (PrefixSelector policies (Some route))) s k
  wildcard-pass policies route n e h =
      let last : n ≡ length policies.items = omega (arith, e, h, prefix_policy-le s.rest (prefixes_of policies.items), length-prefixes policies.items) in
      sym (prefixes-pass policies (Some route) n e ∙ last-pass prefix_view policies.items (view route.value) n last)

  pub no_wildcard-pass : (policies : Vec PrefixPolicy Global) (n : ℕ) → n ≡ prefix_policy s.rest (prefixes_of policies.items) → length policies.items ≤ n → finish (at_once Error) k.legs ≡ pass leaf server c (view (PrefixSelector policies None)) s k
  no_wildcard-pass policies n e h = sym (prefixes-pass policies None n e ∙ no-pass prefix_view policies.items n h)
