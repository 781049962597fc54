-- Two lists whose members are related, one to one.
use Rattle.std.proofs.Common.{cond, ℕ, zero, suc, Bool, true, false, List, [], ◌∷◌}
use Rattle.std.specs.Prelude.{fold}
use Rattle.mcv_route.specs.Children.{child_or, rest_of, together, Way, to_from, to_to, to_both, by_way}

abbrev pub Related : {A B : Type 0} → (A → B → Type 0) → List A → List B → Type 0
Related R [] [] = Unit {0}
Related R [] (y ∷ ys) = ⊥
Related R (x ∷ xs) [] = ⊥
Related R (x ∷ xs) (y ∷ ys) = R x y × Related R xs ys

pub child_related : {A B : Type 0} (R : A → B → Type 0) (d : A) (e : B) (k : ℕ) (xs : List A) (ys : List B) → R d e → Related R xs ys → R (child_or d k xs) (child_or e k ys)
child_related R d e k [] [] h r = h
child_related R d e k [] (y ∷ ys) h r = absurd r
child_related R d e k (x ∷ xs) [] h r = absurd r
child_related R d e zero (x ∷ xs) (y ∷ ys) h r = r.0
child_related R d e (suc k) (x ∷ xs) (y ∷ ys) h r = child_related R d e k xs ys h r.1

pub rest_related : {A B : Type 0} (R : A → B → Type 0) (xs : List A) (ys : List B) → Related R xs ys → Related R (rest_of xs) (rest_of ys)
rest_related R [] [] r = tt
rest_related R [] (y ∷ ys) r = absurd r
rest_related R (x ∷ xs) [] r = absurd r
rest_related R (x ∷ xs) (y ∷ ys) r = r.1

pub fold_related : {A B : Type 0} (R : A → B → Type 0) (put : A → A → A) (join : B → B → B) → ((a b : A) (t u : B) → R a t → R b u → R (put a b) (join t u)) → (x : A) (y : B) (xs : List A) (ys : List B) → R x y → Related R xs ys → R (fold put x xs) (fold join y ys)
fold_related R put join f x y [] [] h r = h
fold_related R put join f x y [] (v ∷ ys) h r = absurd r
fold_related R put join f x y (w ∷ xs) [] h r = absurd r
fold_related R put join f x y (w ∷ xs) (v ∷ ys) h r = fold_related R put join f (put x w) (join y v) xs ys (f x w y v h r.0) r.1

pub together_related : {A B : Type 0} (R : A → B → Type 0) (put : A → A → A) (join : B → B → B) → ((a b : A) (t u : B) → R a t → R b u → R (put a b) (join t u)) → (d : A) (e : B) (xs : List A) (ys : List B) → R d e → Related R xs ys → R (together put d xs) (together join e ys)
together_related R put join f d e [] [] h r = h
together_related R put join f d e [] (v ∷ ys) h r = absurd r
together_related R put join f d e (w ∷ xs) [] h r = absurd r
together_related R put join f d e (w ∷ xs) (v ∷ ys) h r = fold_related R put join f w v xs ys r.0 r.1

pub if_related : {A B : Type 0} (R : A → B → Type 0) (b : Bool) (x y : A) (v w : B) → R x v → R y w → R (cond b x y) (cond b v w)
if_related R true x y v w h i = h
if_related R false x y v w h i = i

pub way_related : {A B : Type 0} (R : A → B → Type 0) (way : Way) (x y z : A) (u v w : B) → R x u → R y v → R z w → R (by_way way x y z) (by_way way u v w)
way_related R to_from x y z u v w a b c = a
way_related R to_to x y z u v w a b c = b
way_related R to_both x y z u v w a b c = c
