-- The line of a finding's eras.
use Rattle.std.proofs.Common.{◌≡◌, ◌≢◌, ◌∙◌, ℕ, zero, suc, List, ◌∷◌, ◌++◌, refl, ap, append_assoc, arith}
use Rattle.std.specs.Prelude.{codes, decimal}
use Rattle.mcv_cert.specs.Pair.{SpotValue}
use Rattle.mcv_witness.specs.Text.{eras_text, line}

pub one_era : (w : ℕ) (s : SpotValue) → w ≡ 0 → line (codes "era") (decimal s.era) ≡ line (codes "era") (eras_text w s)
one_era zero s none = refl
one_era (suc w) s none = absurd (let h : ⊥ = omega (arith, none) in h)

pub two_eras : (w : ℕ) (s : SpotValue) (t0 t1 t2 t3 t4 t5 : List ℕ) → w ≢ 0 → t1 ≡ t0 ++ codes "era " → t2 ≡ t1 ++ decimal s.era → t3 ≡ t2 ++ codes " " → t4 ≡ t3 ++ decimal s.get_era → t5 ≡ t4 ++ codes "\n" → t5 ≡ t0 ++ line (codes "era") (eras_text w s)
two_eras zero s t0 t1 t2 t3 t4 t5 some e1 e2 e3 e4 e5 = absurd (some refl)
two_eras (suc w) s t0 t1 t2 t3 t4 t5 some e1 e2 e3 e4 e5 =
    e5 ∙ ap (λ t. t ++ codes "\n") (e4 ∙ ap (λ t. t ++ decimal s.get_era) (e3 ∙ ap (λ t. t ++ codes " ") (e2 ∙ ap (λ t. t ++ decimal s.era) e1)))
    ∙ joined t0 (codes "era ") (decimal s.era) (codes " ") (decimal s.get_era) (codes "\n")
  where
    joined : (a b c d e f : List ℕ) → ((((a ++ b) ++ c) ++ d) ++ e) ++ f ≡ a ++ ((b ++ ((c ++ d) ++ e)) ++ f)
    joined a b c d e f = simp append_assoc
