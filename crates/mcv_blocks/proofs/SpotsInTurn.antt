-- The spots of classes, era by era: what comes next, and that nothing is left at the end.
use Rattle.std.proofs.Common.{◌≡◌, ℕ, suc, ◌+◌, ◌-◌, ◌<◌, ◌≤◌, List, [], ◌∷◌, ◌++◌, length, get_or, drop, drop-cons, add-one, refl, sym, ap, ◌∙◌, arith}
use Rattle.std.proofs.lemmas.List.{drop_all}
use Rattle.mcv_route.specs.declared.eras.NearEras.{NearEras}
use Rattle.mcv_blocks.specs.Spots.{classes_in_eras, eras_near, gets_from, in_eras}
use Rattle.mcv_blocks.specs.declared.classes.RouteClass.{RouteClass}

one-less : (n k : ℕ) → k < n → n - k ≡ suc (n - (k + 1))
one-less n k low = omega arith

one-up : (k : ℕ) → suc k ≡ k + 1
one-up k = omega arith

none-left : (n k : ℕ) → n ≤ k → n - k ≡ 0
none-left n k high = omega arith

pub next_item : {X : Type 0} (xs : List X) (k : ℕ) (x : X) → k < length xs → x ≡ get_or xs k x → drop k xs ≡ x ∷ drop (k + 1) xs
next_item xs k x low is = rw (add-one, drop-cons xs k x, ← is) refl

module _ (c : RouteClass) where
  pub gets_next : (e k end : ℕ) → k < end → gets_from c e k (end - k) ≡ in_eras c e k ∷ gets_from c e (k + 1) (end - (k + 1))
  gets_next e k end low = ap (gets_from c e k) (one-less end k low) ∙ ap (λ n. in_eras c e k ∷ gets_from c e n (end - (k + 1))) (one-up k)

  pub gets_done : (e k end : ℕ) → end ≤ k → gets_from c e k (end - k) ≡ []
  gets_done e k end high = ap (gets_from c e k) (none-left end k high)

  pub eras_next : (xs : List NearEras) (k : ℕ) (x : NearEras) → k < length xs → x ≡ get_or xs k x → eras_near c k (drop k xs) ≡ gets_from c k x.first (x.end - x.first) ++ eras_near c (k + 1) (drop (k + 1) xs)
  eras_next xs k x low is = ap (eras_near c k) (next_item xs k x low is) ∙ ap (λ n. gets_from c k x.first (x.end - x.first) ++ eras_near c n (drop (k + 1) xs)) (one-up k)

  pub eras_done : (xs : List NearEras) (k : ℕ) → length xs ≤ k → eras_near c k (drop k xs) ≡ []
  eras_done xs k high = ap (eras_near c k) (drop_all k xs high)

pub classes_next : (cs : List RouteClass) (k : ℕ) (c : RouteClass) (xs : List NearEras) → k < length cs → c ≡ get_or cs k c → classes_in_eras (drop k cs) xs ≡ eras_near c 0 xs ++ classes_in_eras (drop (k + 1) cs) xs
classes_next cs k c xs low is = ap (λ ds. classes_in_eras ds xs) (next_item cs k c low is)

pub classes_done : (cs : List RouteClass) (k : ℕ) (xs : List NearEras) → length cs ≤ k → classes_in_eras (drop k cs) xs ≡ []
classes_done cs k xs high = ap (λ ds. classes_in_eras ds xs) (drop_all k cs high)
