-- What follows in a position behind that of a handle.
use Rattle.std.proofs.Common.{◌≡◌, ◌≢◌, cond, ℕ, Bool, true, false, nat_eq, List, [], ◌∷◌, ◌++◌, Some, None, refl, sym, ap, ◌∙◌, arith}
use Rattle.mcv_asks.specs.Hits.{behind}

pub behind_append : (p q : List ℕ) → behind p (p ++ q) ≡ Some q
behind_append [] q = refl
behind_append (i ∷ p) q = let here : nat_eq i i ≡ true = grind arith in ap (λ b. cond b (behind p (p ++ q)) None) here ∙ behind_append p q

pub behind_none : (p s : List ℕ) → ((q : List ℕ) → s ≢ p ++ q) → behind p s ≡ None
behind_none [] s h = absurd (h s refl)
behind_none (i ∷ p) [] h = refl
behind_none (i ∷ p) (j ∷ s) h = by_same (nat_eq i j) refl (λ e. behind_none p s (λ q f. h q (ap (λ v. v ∷ s) (sym e) ∙ ap (λ v. i ∷ v) f)))
  where
    by_same : (b : Bool) → nat_eq i j ≡ b → (i ≡ j → behind p s ≡ None) → cond b (behind p s) None ≡ None
    by_same true e f = let same : i ≡ j = grind arith in f same
    by_same false e f = refl
