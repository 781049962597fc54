-- Members of lists.
use Rattle.std.proofs.Common.{◌≡◌, ◌⊎◌, inl, inr, ⊎_elim, List, [], ◌∷◌, ◌++◌}
use Rattle.mcv_route.specs.Verdict.{Has}

abbrev pub Among : {A : Type 0} → List A → A → Type 0
Among xs a = Has xs (λ b. b ≡ a)

pub among_left : {A : Type 0} (bs cs : List A) (a : A) → Among bs a → Among (bs ++ cs) a
among_left [] cs a h = absurd h
among_left (b ∷ bs) cs a (inl e) = inl e
among_left (b ∷ bs) cs a (inr h) = inr (among_left bs cs a h)

pub among_right : {A : Type 0} (bs cs : List A) (a : A) → Among cs a → Among (bs ++ cs) a
among_right [] cs a h = h
among_right (b ∷ bs) cs a h = inr (among_right bs cs a h)

pub among_either : {A : Type 0} (bs cs : List A) (a : A) → Among (bs ++ cs) a → Among bs a ⊎ Among cs a
among_either [] cs a h = inr h
among_either (b ∷ bs) cs a (inl e) = inl (inl e)
among_either (b ∷ bs) cs a (inr h) = ⊎_elim (λ i. inl (inr i)) (λ i. inr i) (among_either bs cs a h)
