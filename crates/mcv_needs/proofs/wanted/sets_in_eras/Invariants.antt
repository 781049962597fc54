use Rattle.std.proofs.Common.{◌≡◌, length}
use Rattle.mcv_route.specs.View.{view}
use Rattle.mcv_needs.specs.Wanted.{AreSetsByEra}
use Rattle.mcv_needs.proofs.wanted.sets_in_eras.Given as goal

-- those of the eras so far
abbrev pub invariant-loop-era : goal.invariant-loop-era
invariant-loop-era l = record {
  many : length l.all.items ≡ l.era;
  each : AreSetsByEra l.routes (view l.route) l.rest l.all.items;
}
