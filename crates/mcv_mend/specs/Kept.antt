-- Texts with insertions (own).
use Rattle.std.specs.Prelude.{◌≡◌, ◌⊎◌, ⊤, ℕ, List, [], ◌∷◌}

-- each byte of the input is in the text, in order: the text is the input with insertions
abbrev pub IsKeptIn : (input text : List ℕ) → Type 0
IsKeptIn [] text = ⊤
IsKeptIn (b ∷ bs) [] = ⊥
IsKeptIn (b ∷ bs) (c ∷ cs) = ((b ≡ c) × IsKeptIn bs cs) ⊎ IsKeptIn (b ∷ bs) cs
