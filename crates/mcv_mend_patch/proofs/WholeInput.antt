-- What is written of the first bytes of an input is what is written of the input.
use Rattle.std.proofs.Common.{◌≡◌, ◌≤◌, ℕ, List, arith, length, subst, take}
use Rattle.mcv_config.specs.Config.{size_limit}
use Rattle.mcv_input.proofs.FirstBytes.{read_limit, whole}
use Rattle.mcv_input.specs.Fault.{AreNamedBy}
use Rattle.mcv_mend.specs.declared.fault.Mending.{Mending}
use Rattle.mcv_mend.specs.declared.fault.Mending.TheVariants.{Mended, Unchanged}
use Rattle.mcv_mend_patch.specs.Patching.{IsPatchOn}
use Rattle.mcv_route.specs.Routes.{RoutesValue}

-- a configuration that is read up to the limit is whole
named_whole : (bytes : List ℕ) (r : RoutesValue) → AreNamedBy (take read_limit bytes) r → take read_limit bytes ≡ bytes
named_whole bytes r named = let short : length (take read_limit bytes) ≤ size_limit = named.1.0 in whole read_limit bytes (omega (arith, short))

pub patch_by_all : (bytes : List ℕ) (mending : Mending) (text : List ℕ) → IsPatchOn (take read_limit bytes) mending text → IsPatchOn bytes mending text
patch_by_all bytes Unchanged text on = subst (λ (xs : List ℕ). IsPatchOn xs Unchanged text) (named_whole bytes on.0.0 on.0.1) on
patch_by_all bytes Mended text on = subst (λ (xs : List ℕ). IsPatchOn xs Mended text) (named_whole bytes on.1.0 on.1.1) on
