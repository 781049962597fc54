-- The first bytes of pieces that come one after another.
use Rattle.std.proofs.Common.{◌≡◌, ◌∙◌, ℕ, zero, suc, ◌-◌, ◌≤◌, min, List, [], ◌∷◌, ◌++◌, length, take, refl, sym, ap, arith, append_assoc}
use Rattle.std.proofs.lemmas.List.{take_min}

pub take-take-append : (n : ℕ) (xs ys : List ℕ) → take n (take n xs ++ ys) ≡ take n (xs ++ ys)
take-take-append zero xs ys = refl
take-take-append (suc n) [] ys = refl
take-take-append (suc n) (x ∷ xs) ys = ap (λ (l : List ℕ). x ∷ l) (take-take-append n xs ys)

pub take-behind : (n : ℕ) (xs ys : List ℕ) → length xs ≤ n → take n (xs ++ ys) ≡ xs ++ take (n - length xs) ys
take-behind n [] ys short = ap (λ k. take k ys) (omega arith)
take-behind zero (x ∷ xs) ys short = absurd (omega arith)
take-behind (suc n) (x ∷ xs) ys short = ap (λ (l : List ℕ). x ∷ l) (take-behind n xs ys (omega arith) ∙ ap (λ k. xs ++ take k ys) (omega arith))

-- what is taken of a piece, where so much has come before
pub take_joined : (xs ys : List ℕ) → length xs ≤ 8192 → take 8192 (xs ++ ys) ≡ xs ++ take (min (length ys) (8192 - length xs)) ys
take_joined xs ys short =
    take-behind 8192 xs ys short ∙ ap (λ (l : List ℕ). xs ++ l) (sym (ap (λ k. take k ys) (omega arith) ∙ take_min (8192 - length xs) ys))
