-- The depth of the outcomes at the front, by their number.
use Rattle.std.proofs.Common.{◌≡◌, ◌<◌, ◌≤◌, ℕ, zero, suc, List, [], ◌∷◌, length, take, refl, arith}
use Rattle.mcv_witness.specs.Finding.{outcomes_of}
use Rattle.mcv_witness.specs.Walk.{depth_of}
use Rattle.mcv_witness.specs.declared.finding.LegOutcome.{LegOutcome}

pub depth_counted : (d : ℕ) (legs : List LegOutcome) (count : ℕ) → 0 < count → count ≤ length legs → depth_of d (outcomes_of (take count legs)) ≡ suc d
depth_counted d legs zero h g = absurd (omega (arith, h))
depth_counted d [] (suc count) h g = absurd (omega (arith, g))
depth_counted d (x ∷ legs) (suc count) h g = refl
