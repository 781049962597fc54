-- A text that keeps another one, byte by byte.
use Rattle.std.proofs.Common.{◌≡◌, ◌<◌, ◌≤◌, ◌+◌, ℕ, List, [], ◌∷◌, get_or, length, drop, add-one, drop-cons, inl, inr, sym, subst}
use Rattle.std.proofs.lemmas.List.{drop_all}
use Rattle.mcv_mend.specs.Kept.{IsKeptIn}

first_left : (xs : List ℕ) (i : ℕ) → i < length xs → drop i xs ≡ get_or xs i 0 ∷ drop (i + 1) xs
first_left xs i lt = rw (add-one, drop-cons xs i 0)

-- what is kept is kept where bytes come before it
kept_behind : (xs : List ℕ) (y : ℕ) (ys : List ℕ) → IsKeptIn xs ys → IsKeptIn xs (y ∷ ys)
kept_behind [] y ys h = tt
kept_behind (x ∷ xs) y ys h = inr h

-- what is left is kept where it is kept behind a byte that is put in
pub passed : (input text : List ℕ) (k i : ℕ) → i < length text → IsKeptIn (drop k input) (drop (i + 1) text) → IsKeptIn (drop k input) (drop i text)
passed input text k i less h =
    subst (IsKeptIn (drop k input)) (sym (first_left text i less)) (kept_behind (drop k input) (get_or text i 0) (drop (i + 1) text) h)

-- and where its first byte comes first
pub met : (input text : List ℕ) (k i : ℕ) → k < length input → i < length text → get_or input k 0 ≡ get_or text i 0 → IsKeptIn (drop (k + 1) input) (drop (i + 1) text) → IsKeptIn (drop k input) (drop i text)
met input text k i lt less same h =
    subst (λ xs. IsKeptIn xs (drop i text)) (sym (first_left input k lt))
    (subst (IsKeptIn (get_or input k 0 ∷ drop (k + 1) input)) (sym (first_left text i less)) (inl (same, h)))

-- where nothing is left, it is kept
pub all_kept : (input rest : List ℕ) (k : ℕ) → length input ≤ k → IsKeptIn (drop k input) rest
all_kept input rest k past = subst (λ xs. IsKeptIn xs rest) (sym (drop_all k input past)) tt
