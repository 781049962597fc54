-- Rows of the definitions.
use Rattle.std.proofs.Common.{◌≡◌, ℕ, List, [], ◌∷◌, inl, inr, refl, arith}
use Rattle.mcv_mend.specs.Kept.{IsKeptIn}

-- a byte put between two
between : IsKeptIn (1 ∷ 2 ∷ []) (1 ∷ 3 ∷ 2 ∷ [])
between = inl (refl, inr (inl (refl, tt)))

-- two bytes in the other order
exchanged : IsKeptIn (1 ∷ 2 ∷ []) (2 ∷ 1 ∷ []) → ⊥
exchanged (inl h) = absurd (let e : 1 ≡ 2 = h.0 in omega (arith, e))
exchanged (inr (inl h)) = h.1
exchanged (inr (inr h)) = h
