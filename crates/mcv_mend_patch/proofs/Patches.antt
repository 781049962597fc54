-- What is written, by what became of the input.
use Rattle.std.proofs.Common.{◌≡◌, List, ℕ, [], refl, subst, sym}
use Rattle.mcv_mend.specs.Mending.{IsMendingOn}
use Rattle.mcv_mend.specs.declared.fault.Mending.{Mending}
use Rattle.mcv_mend.specs.declared.fault.Mending.TheVariants.{Mended, Unchanged}
use Rattle.mcv_mend_patch.specs.Patching.{IsPatchBetween, IsPatchOn}
use Rattle.mcv_patch.specs.Text.{IsPatchText}

pub of_covered : (input mended : List ℕ) (mending : Mending) (text : List ℕ) → mending ≡ Unchanged → IsMendingOn input mending mended → IsPatchText [] text
    → IsPatchOn input mending text
of_covered input mended mending text is on written =
    let covered = subst (λ (m : Mending). IsMendingOn input m mended) is on in
    subst (λ (m : Mending). IsPatchOn input m text) (sym is) ((covered.0, covered.1, (covered.2.0, refl)), written)

pub of_lost : (input mended : List ℕ) (mending : Mending) (text : List ℕ) → mending ≡ Mended → IsMendingOn input mending mended → IsPatchBetween input mended text
    → IsPatchOn input mending text
of_lost input mended mending text is on patch =
    subst (λ (m : Mending). IsPatchOn input m text) (sym is) (mended, subst (λ (m : Mending). IsMendingOn input m mended) is on, patch)
