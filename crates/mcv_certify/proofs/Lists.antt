-- Lists that are put together, and lists that are parted.
use Rattle.std.proofs.Common.{◌≡◌, ℕ, zero, suc, inl, inr, List, [], ◌∷◌, ◌++◌, take, drop, refl, sym, ap, ◌∙◌, subst}
use Rattle.std.specs.List.{AllPairs, AllZip, Contains}
use Rattle.std.specs.Prelude.{slice_get, Some}
use Rattle.std.proofs.lemmas.List.{append_assoc}
use Rattle.mcv_cert.specs.Pair.{PairValue}
use Rattle.mcv_judge.specs.Answers.{AreInTurn}
use Rattle.mcv_route.proofs.RisingLists.{at_first, behind_first, first_or_behind, none_there, rises_behind}

pub zip_both : {A B : Type 0} (R : A → B → Type 0) (xs us : List A) (ys vs : List B) → AllZip R xs ys → AllZip R us vs → AllZip R (xs ++ us) (ys ++ vs)
zip_both R [] us [] vs h g = g
zip_both R [] us (y ∷ ys) vs h g = absurd h
zip_both R (x ∷ xs) us [] vs h g = absurd h
zip_both R (x ∷ xs) us (y ∷ ys) vs h g = (h.0, zip_both R xs us ys vs h.1 g)

-- what is beside one of them
pub zip_there : {A B : Type 0} (R : A → B → Type 0) (xs : List A) (ys : List B) (x : A) → AllZip R xs ys → Contains xs x → (y : B) × Contains ys y × R x y
zip_there R [] ys x h at = absurd (none_there x at)
zip_there R (z ∷ xs) [] x h at = absurd h
zip_there R (z ∷ xs) (y ∷ ys) x h at = elim (first_or_behind z xs x at) [
  | inl e ↦ (y, at_first y ys y refl, subst (λ w. R w y) e h.0)
  | inr g ↦ let rest = zip_there R xs ys x h.1 g in (rest.0, behind_first y ys rest.0 rest.1, rest.2)
]

pub in_turn_both : {X : Type 0} (P : X → List PairValue → Type 0) (xs ys : List X) (ps qs : List PairValue) → AreInTurn P xs ps → AreInTurn P ys qs → AreInTurn P (xs ++ ys) (ps ++ qs)
in_turn_both P [] ys ps qs h g = subst (λ rs. AreInTurn P ys (rs ++ qs)) (sym h) g
in_turn_both P (x ∷ xs) ys ps qs h g = (h.0, h.1 ++ qs, ap (λ rs. rs ++ qs) h.2 ∙ append_assoc h.0 h.1 qs, h.3, in_turn_both P xs ys h.1 qs h.4 g)

-- a list parted at an element
pub parted : {X : Type 0} (xs : List X) (k : ℕ) (x : X) → slice_get xs k ≡ Some x → xs ≡ take k xs ++ x ∷ drop (suc k) xs
parted [] k x h = absurd cc
parted (y ∷ xs) zero x h = let same : y ≡ x = cc in ap (λ z. z ∷ xs) same
parted (y ∷ xs) (suc k) x h = ap (λ zs. y ∷ zs) (parted xs k x h)

pub rises_from : {X : Type 0} (R : X → X → Type 0) (xs ys : List X) → AllPairs R (xs ++ ys) → AllPairs R ys
rises_from R [] ys h = h
rises_from R (x ∷ xs) ys h = rises_from R xs ys (rises_behind R x (xs ++ ys) h)
