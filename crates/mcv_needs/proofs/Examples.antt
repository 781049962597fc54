-- A row of the definitions: a block of one leaf that can be read, to which no acknowledged delete is sent.
use Rattle.std.proofs.Common.{◌≡◌, ◌<◌, ℕ, true, List, [], ◌∷◌, refl, sym, subst, arith}
use Rattle.std.specs.Prelude.{slice_index}
use Rattle.mcv_gaps.specs.Gaps.{IsMissed}
use Rattle.mcv_judge.specs.Reason.{BlockValue, LegValue}
use Rattle.mcv_needs.specs.Needs.{HasGapIn}

abbrev leaf : LegValue
leaf = record { position = 0 ∷ []; symbol = 0; servers = 7 ∷ [] }

abbrev sizes : List ℕ
sizes = 1 ∷ []

abbrev block : BlockValue
block = record { spot = record { route = 0; class = []; era = 0; get_era = 0 }; readable = leaf ∷ []; acknowledged = []; can_be_acknowledged = true }

missed : IsMissed sizes [] leaf
missed = (
  0,
  omega arith,
  λ a.
      let zeroth : a.0 ≡ 0 = let lt = a.1 in omega arith in
      let small : 0 < slice_index sizes a.0 = subst (λ s. 0 < slice_index sizes s) (sym zeroth) (omega arith) in
      let at = (a.2 0 small (λ _. refl)).listed in
      absurd (omega (arith, at.1)),
)

gap : HasGapIn sizes block []
gap = record { can = refl; leaf = leaf; read = (0, omega arith, refl); missed = missed }
