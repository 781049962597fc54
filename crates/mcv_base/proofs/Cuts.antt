-- Where a byte first is in a list, and the two parts on its sides.
use Rattle.std.proofs.Common.{◌≡◌, ◌∙◌, ℕ, ◌<◌, Bool, true, false, not, ◌&&◌, ◌==◌, List, [], ◌∷◌, ◌++◌, length, take, drop, Some, None, zero, suc, refl, ap, sym, subst, arith, length-append}
use Rattle.std.proofs.Math.Seq.{get_or-append_seam}
use Rattle.std.proofs.lemmas.Bool.Decides.{Decides-eqb}
use Rattle.memchr.specs.Find.{IsFirstByte, is_byte, Passes}
use Rattle.mcv_base.specs.Key.{lacks}

pub both : (a b : Bool) → (a && b) ≡ true → (a ≡ true) × (b ≡ true)
both true b is = (refl, is)
both false b is = (is, absurd (cc))

pub joined : (a b : Bool) → a ≡ true → b ≡ true → (a && b) ≡ true
joined true b p q = q
joined false b p q = p

pub never_both : (b : Bool) → not b ≡ true → b ≡ true → ⊥
never_both true p q = cc
never_both false p q = cc

pub lacks_at : (c : ℕ) (ys zs : List ℕ) (k : ℕ) → lacks c ys ≡ true → k < length ys → Passes (is_byte c) (ys ++ zs) k → ⊥
lacks_at c [] zs k l lt here = omega arith
lacks_at c (y ∷ ys) zs zero l lt here = never_both (y == c) (both (not (y == c)) (lacks c ys) l).0 here
lacks_at c (y ∷ ys) zs (suc k) l lt here = lacks_at c ys zs k (both (not (y == c)) (lacks c ys) l).1 (omega arith) here

same_byte : (c : ℕ) → (c == c) ≡ true
same_byte c = (Decides-eqb c c).1 refl

at_cut : (c : ℕ) (ys zs : List ℕ) → Passes (is_byte c) (ys ++ c ∷ zs) (length ys)
at_cut c ys zs = ap (λ b. b == c) (get_or-append_seam ys c zs 0) ∙ same_byte c

cut_within : (c : ℕ) (ys zs : List ℕ) → length ys < length (ys ++ c ∷ zs)
cut_within c ys zs = omega (arith, length-append ys (c ∷ zs))

-- the first byte c of a list is at the first cut
pub first_at_cut : (c : ℕ) (xs ys zs : List ℕ) (k : ℕ) → xs ≡ ys ++ c ∷ zs → lacks c ys ≡ true → IsFirstByte (is_byte c) xs (Some k) → k ≡ length ys
first_at_cut c xs ys zs k is l first =
    let here : Passes (is_byte c) (ys ++ c ∷ zs) k = subst (λ (s : List ℕ). Passes (is_byte c) s k) is first.1 in
    let cut : Passes (is_byte c) xs (length ys) = subst (λ (s : List ℕ). Passes (is_byte c) s (length ys)) (sym is) (at_cut c ys zs) in
    let low : ¬ (k < length ys) = λ lt. lacks_at c ys (c ∷ zs) k l lt here in
    let high : ¬ (length ys < k) = λ lt. first.0.before (length ys) (omega arith) lt cut in
    omega arith

pub none_at_cut : (c : ℕ) (xs ys zs : List ℕ) → xs ≡ ys ++ c ∷ zs → IsFirstByte (is_byte c) xs None → ⊥
none_at_cut c xs ys zs is none =
    none (length ys) (omega arith) (subst (λ (s : List ℕ). length ys < length s) (sym is) (cut_within c ys zs))
    (subst (λ (s : List ℕ). Passes (is_byte c) s (length ys)) (sym is) (at_cut c ys zs))

-- a list is what comes before its first byte c, that byte, and the rest
pub first_cuts : (c : ℕ) (xs : List ℕ) (k : ℕ) → k < length xs → Passes (is_byte c) xs k → ((j : ℕ) → j < k → ¬ Passes (is_byte c) xs j)
    → (lacks c (take k xs) ≡ true) × (xs ≡ take k xs ++ c ∷ drop (suc k) xs)
first_cuts c [] k lt here before = absurd (let h : ⊥ = omega arith in h)
first_cuts c (x ∷ xs) zero lt here before = (refl, ap (λ b. b ∷ xs) ((Decides-eqb x c).0 here))
first_cuts c (x ∷ xs) (suc k) lt here before =
    let more = first_cuts c xs k (omega arith) here (λ j below. before (suc j) (omega arith)) in
    (joined (not (x == c)) (lacks c (take k xs)) (passed_over (x == c) (before 0 (omega arith))) more.0, ap (λ ys. x ∷ ys) more.1)
  where
    passed_over : (b : Bool) → ¬ (b ≡ true) → not b ≡ true
    passed_over true h = absurd (h refl)
    passed_over false h = refl

pub lacks-append : (c : ℕ) (xs ys : List ℕ) → lacks c xs ≡ true → lacks c ys ≡ true → lacks c (xs ++ ys) ≡ true
lacks-append c [] ys l m = m
lacks-append c (x ∷ xs) ys l m =
    let h = both (not (x == c)) (lacks c xs) l in
    joined (not (x == c)) (lacks c (xs ++ ys)) h.0 (lacks-append c xs ys h.1 m)
