-- Lists of texts that are equal in memory have the same bytes.
use Rattle.std.proofs.Common.{◌≡◌, ◌&&◌, ℕ, Bool, true, false, nat_eq, List, [], ◌∷◌, map, refl}
use Rattle.std.specs.declared.alloc.Global.{Global}
use Rattle.std.specs.declared.vec.Vec.{Vec}
use Rattle.std.specs.Cmp.Lexicographic.{bytes_decides, pointwise}
use Rattle.mcv_mend.specs.Aliases.{aliases_value, bytes_of, texts_of}

both : (s t : Bool) → (s && t) ≡ true → (s ≡ true) × (t ≡ true)
both true true h = (refl, refl)
both true false h = absurd cc
both false t h = absurd cc

mapped_same : {A B : Type 0} (E : A → A → Bool) (f : A → B) → ((x y : A) → E x y ≡ true → f x ≡ f y) → (xs ys : List A) → pointwise E xs ys ≡ true → map f xs ≡ map f ys
mapped_same E f so [] [] h = refl
mapped_same E f so [] (y ∷ ys) h = absurd cc
mapped_same E f so (x ∷ xs) [] h = absurd cc
mapped_same E f so (x ∷ xs) (y ∷ ys) h =
    let p = both (E x y) (pointwise E xs ys) h in
    λ i. so x y p.0 i ∷ mapped_same E f so xs ys p.1 i

abbrev equal_bytes : Vec ℕ Global → Vec ℕ Global → Bool
equal_bytes x y = pointwise nat_eq x.items y.items

abbrev equal_texts : Vec (Vec ℕ Global) Global → Vec (Vec ℕ Global) Global → Bool
equal_texts x y = pointwise equal_bytes x.items y.items

pub aliases_same : (xs ys : List (Vec (Vec ℕ Global) Global)) → pointwise equal_texts xs ys ≡ true → aliases_value xs ≡ aliases_value ys
aliases_same = mapped_same equal_texts texts_of (λ x y h. mapped_same equal_bytes bytes_of (λ v w e. (bytes_decides v.items w.items).0 e) x.items y.items h)
