-- The walk over the targets of shadows, one shadow at a time.
use Rattle.std.proofs.Common.{◌≡◌, ◌<◌, ◌+◌, cond, ℕ, zero, suc, Bool, true, false, List, [], ◌∷◌, length, get_or, drop, Option, Some, None, sym, ap, ap₂, ◌∙◌, add-one, arith}
use Rattle.std.specs.Prelude.{option_and_then}
use Rattle.mcv_route.proofs.Views.{shadow_view-out}
use Rattle.mcv_route.specs.Children.{is_within}
use Rattle.mcv_route.specs.Outcomes.{Choice}
use Rattle.mcv_route.specs.Situation.{Situation}
use Rattle.mcv_route.specs.Tree.{Range}
use Rattle.mcv_route.specs.View.{ShadowView, shadow_view, view}
use Rattle.mcv_route.specs.declared.tree.Shadow.{Shadow, out-Shadow}
use Rattle.mcv_rules.specs.PlanInMemory.{ranges_of, targets_of}
use Rattle.mcv_witness.specs.Walk.{Known, below, joined_seen, pass, pass_each, past, shade}
use Rattle.mcv_witness.specs.declared.seen.Join.TheVariants.{Beside}
use Rattle.mcv_witness.specs.declared.seen.Seen.{Seen}

abbrev pub range_of : Shadow → Range
range_of x = record { first = (out-Shadow x).first; last = (out-Shadow x).last }

module _ (leaf : List ℕ) (server : ℕ) (c : Choice) (s : Situation) (i : ℕ) where
  -- the shadows from place j on, the first of which has number n
  abbrev shades : ℕ → List Shadow → Seen → Known → Option Seen
  shades n shadows x k = shade i n (ranges_of shadows) (pass_each leaf server c (targets_of shadows) s) x k

  shade-step : (shadows : List Shadow) (j n : ℕ) (item : Shadow) (x : Seen) (k : Known) → j < length shadows → item ≡ get_or shadows j item
      → shades n (drop j shadows) x k
      ≡ cond (is_within (range_of item) i) (option_and_then (λ y. shades (suc n) (drop (suc j) shadows) (joined_seen Beside x y) (past k n)) (pass leaf server c (view (out-Shadow item).target) s (below k n))) (shades (suc n) (drop (suc j) shadows) x k)
  shade-step [] j n item x k h is = absurd (omega (arith, h))
  shade-step (y ∷ shadows) zero n item x k h is =
      ap (λ (v : ShadowView). cond (is_within v.0 i) (option_and_then (λ z. shades (suc n) shadows (joined_seen Beside x z) (past k n)) (pass leaf server c v.1 s (below k n))) (shades (suc n) shadows x k))
      (ap shadow_view (sym is) ∙ shadow_view-out item)
  shade-step (y ∷ shadows) (suc j) n item x k h is = shade-step shadows j n item x k (omega (arith, h)) is

  module _ (shadows : List Shadow) (n : ℕ) (item : Shadow) (x : Seen) (k : Known) (low : n < length shadows) (is : item ≡ get_or shadows n item) (b : Bool) (tests : b ≡ is_within (range_of item) i) (whole : Option Seen) (so_far : shades n (drop n shadows) x k ≡ whole) where
    by_test : cond b (option_and_then (λ y. shades (suc n) (drop (suc n) shadows) (joined_seen Beside x y) (past k n)) (pass leaf server c (view (out-Shadow item).target) s (below k n))) (shades (suc n) (drop (suc n) shadows) x k) ≡ whole
    by_test =
        ap (λ t. cond t (option_and_then (λ y. shades (suc n) (drop (suc n) shadows) (joined_seen Beside x y) (past k n)) (pass leaf server c (view (out-Shadow item).target) s (below k n))) (shades (suc n) (drop (suc n) shadows) x k)) tests
        ∙ sym (shade-step shadows n n item x k low is) ∙ so_far

    pub shade-skips : b ≡ false → shades (n + 1) (drop (n + 1) shadows) x k ≡ whole
    shade-skips e =
        ap (λ m. shades m (drop m shadows) x k) (add-one n)
        ∙ sym (ap (λ t. cond t (option_and_then (λ y. shades (suc n) (drop (suc n) shadows) (joined_seen Beside x y) (past k n)) (pass leaf server c (view (out-Shadow item).target) s (below k n))) (shades (suc n) (drop (suc n) shadows) x k)) e)
        ∙ by_test

    module _ (holds : b ≡ true) (r : Option Seen) (own : Known) (split : own ≡ below k n) (walked : r ≡ pass leaf server c (view (out-Shadow item).target) s own) where
      by_walk : option_and_then (λ y. shades (suc n) (drop (suc n) shadows) (joined_seen Beside x y) (past k n)) r ≡ whole
      by_walk =
          ap (option_and_then (λ y. shades (suc n) (drop (suc n) shadows) (joined_seen Beside x y) (past k n))) (walked ∙ ap (λ o. pass leaf server c (view (out-Shadow item).target) s o) split)
          ∙ sym (ap (λ t. cond t (option_and_then (λ y. shades (suc n) (drop (suc n) shadows) (joined_seen Beside x y) (past k n)) (pass leaf server c (view (out-Shadow item).target) s (below k n))) (shades (suc n) (drop (suc n) shadows) x k)) holds)
          ∙ by_test

      pub shade-stops : (out : Option Seen) → out ≡ None → r ≡ None → out ≡ whole
      shade-stops out gone e = gone ∙ sym (ap (option_and_then (λ y. shades (suc n) (drop (suc n) shadows) (joined_seen Beside x y) (past k n))) e) ∙ by_walk

      pub shade-goes : (y z : Seen) (left : Known) → r ≡ Some y → z ≡ joined_seen Beside x y → left ≡ past k n → shades (n + 1) (drop (n + 1) shadows) z left ≡ whole
      shade-goes y z left e joined is-left =
          ap (λ m. shades m (drop m shadows) z left) (add-one n)
          ∙ ap₂ (λ w l. shades (suc n) (drop (suc n) shadows) w l) joined is-left
          ∙ sym (ap (option_and_then (λ w. shades (suc n) (drop (suc n) shadows) (joined_seen Beside x w) (past k n))) e)
          ∙ by_walk
