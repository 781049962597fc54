-- Members of lists, seen by a function.
use Rattle.std.proofs.Common.{◌≡◌, ◌<◌, ◌≤◌, ◌+◌, ℕ, zero, suc, List, [], ◌∷◌, ◌++◌, length, get_or, map, take, ⊎_elim, refl, sym, ap, ◌∙◌, subst, arith}
use Rattle.std.specs.List.{Contains}
use Rattle.std.proofs.lemmas.List.{map_more, take_all}
use Rattle.std.proofs.lemmas.List.Elements.{Contains-push_cases}

pub mapped : {A B : Type 0} (f : A → B) (xs : List A) (x : A) → Contains xs x → Contains (map f xs) (f x)
mapped {A} {B} f xs x at = by xs at.0 at.1 at.2
  where
    by : (ys : List A) (k : ℕ) → k < length ys → get_or ys k x ≡ x → Contains (map f ys) (f x)
    by [] k lt e = absurd (omega arith)
    by (y ∷ ys) zero lt e = (0, omega arith, ap f e)
    by (y ∷ ys) (suc k) lt e = let rest = by ys k (omega arith) e in (suc rest.0, omega (arith, rest.1), rest.2)

-- a member of the image comes from one of the list
pub from : {A B : Type 0} (f : A → B) (xs : List A) (y : B) → Contains (map f xs) y → (x : A) × Contains xs x × (f x ≡ y)
from {A} {B} f xs y at = by xs at.0 at.1 at.2
  where
    by : (ys : List A) (k : ℕ) → k < length (map f ys) → get_or (map f ys) k y ≡ y → (x : A) × Contains ys x × (f x ≡ y)
    by [] k lt e = absurd (omega arith)
    by (z ∷ zs) zero lt e = (z, (0, omega arith, refl), e)
    by (z ∷ zs) (suc k) lt e = let rest = by zs k (omega arith) e in (rest.0, (suc rest.1.0, omega (arith, rest.1.1), rest.1.2), rest.2)

-- the member at an index
pub item : {A B : Type 0} (f : A → B) (xs : List A) (i : ℕ) (x : A) → i < length xs → x ≡ get_or xs i x → Contains (map f xs) (f x)
item f xs i x lt is = mapped f xs x (i, lt, sym is)

pub one_further : {A B : Type 0} (f : A → B) (xs : List A) (i : ℕ) (x : A) → i < length xs → x ≡ get_or xs i x → map f (take (i + 1) xs) ≡ map f (take i xs) ++ f x ∷ []
one_further f xs i x lt is = map_more f xs i x lt ∙ ap (λ d. map f (take i xs) ++ f d ∷ []) (sym is)

-- what no member so far has, and the next one hasn't
pub none_further : {A B : Type 0} (f : A → B) (P : B → Type 0) (xs : List A) (i : ℕ) (x : A) → i < length xs → x ≡ get_or xs i x
    → ((d : B) → Contains (map f (take i xs)) d → P d → ⊥) → (P (f x) → ⊥) → (d : B) → Contains (map f (take (i + 1) xs)) d → P d → ⊥
none_further {A} {B} f P xs i x lt is before own d at has =
    ⊎_elim (λ h. before d h has) (λ e. own (subst P (sym e) has))
    (Contains-push_cases (map f (take i xs)) (f x) d (subst (λ (ys : List B). Contains ys d) (one_further f xs i x lt is) at))

-- behind the last one that is all
pub none_at_all : {A B : Type 0} (f : A → B) (P : B → Type 0) (xs : List A) (i : ℕ) → length xs ≤ i → ((d : B) → Contains (map f (take i xs)) d → P d → ⊥) → (d : B) → Contains (map f xs) d → P d → ⊥
none_at_all {A} f P xs i past before d at has = before d (subst (λ (ys : List A). Contains (map f ys) d) (sym (take_all i xs past)) at) has
