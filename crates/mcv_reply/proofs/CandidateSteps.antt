-- Advances of a candidate by one byte.
use Rattle.std.proofs.Common.{◌≡◌, ℕ, Bool, true, false, cond, eqb, List, ◌∷◌, Option, Some, None, refl, sym, subst, arith}
use Rattle.std.proofs.lemmas.Bool.{eqb-true, eqb-false}
use Rattle.mcv_reply.specs.declared.candidate.Head.{Head}
use Rattle.mcv_reply.specs.declared.candidate.Candidate.{Candidate}
use Rattle.mcv_reply.specs.declared.candidate.Advance.{Advance}
use Rattle.mcv_reply.specs.Candidate.{Advances, AdvancesOn}

module _ (has : Bool) (key : List ℕ) (c : Candidate) (b : ℕ) where
  -- the same may follow
  pub moves_same : (From Other : Head → List ℕ → Type 0) (need other : ℕ) (r : Option Advance) → ((head : Head) (more : List ℕ) → From head (b ∷ more) → Other head (b ∷ more)) → ((head : Head) (more : List ℕ) → Other head (b ∷ more) → From head (b ∷ more)) → need ≡ other → Advances has key c Other other b r → Advances has key c From need b r
  moves_same From Other need other None to back e m = λ head more f. m head more (to head more f)
  moves_same From Other need other (Some move) to back e m = record {
    on = λ head more f. m.on head more (to head more f);
    back = λ head more f. back head more (m.back head more f);
    first = m.first;
    spare = m.spare;
    valid = m.valid;
    needs = omega (arith, m.needs);
  }

  by_space : (From : Head → List ℕ → Type 0) (need : ℕ) (m : Advance) (t : Bool) → eqb b 32 ≡ t → ((head : Head) (more : List ℕ) → From head (b ∷ more) → b ≡ 32) → (b ≡ 32 → AdvancesOn has key c From need b m) → Advances has key c From need b (cond t (Some m) None)
  by_space From need m true e only moves = moves (eqb-true b 32 e)
  by_space From need m false e only moves = λ head more f. absurd (eqb-false b 32 e (only head more f))

  -- only a space may come
  pub moves_by_space : (From : Head → List ℕ → Type 0) (need : ℕ) (m : Advance) (r : Option Advance) → r ≡ cond (eqb b 32) (Some m) None → ((head : Head) (more : List ℕ) → From head (b ∷ more) → b ≡ 32) → (b ≡ 32 → AdvancesOn has key c From need b m) → Advances has key c From need b r
  moves_by_space From need m r e only moves = subst (λ (t : Option Advance). Advances has key c From need b t) (sym e) (by_space From need m (eqb b 32) refl only moves)
