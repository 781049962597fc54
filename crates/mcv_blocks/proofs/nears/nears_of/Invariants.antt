use Rattle.std.proofs.Common.{◌≡◌, ℕ, length, Some}
use Rattle.std.specs.Prelude.{slice_get}
use Rattle.mcv_route.specs.Eras.{AreNearEras}
use Rattle.mcv_route.specs.declared.eras.NearEras.{NearEras}
use Rattle.mcv_blocks.proofs.nears.nears_of.Given as goal

abbrev pub invariant-loop-era : goal.invariant-loop-era
invariant-loop-era l = record {
  sized : length l.nears.items ≡ l.era;
  each : (k : ℕ) (y : NearEras) → slice_get l.nears.items k ≡ Some y → AreNearEras l.routes l.routes.window k y.first y.end;
}
