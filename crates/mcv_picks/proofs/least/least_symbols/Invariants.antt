use Rattle.std.proofs.Common.{ℕ, map, take}
use Rattle.std.specs.BTreeMap.{get}
use Rattle.std.specs.Ordering.{nat_cmp}
use Rattle.std.specs.Prelude.{All}
use Rattle.mcv_picks.specs.Picks.{borrowed}
use Rattle.mcv_picks.proofs.LeastSymbol.{IsKept, IsNoLess}
use Rattle.mcv_picks.proofs.least.least_symbols.Given as goal

abbrev pub invariant-loop-leg : goal.invariant-loop-leg
invariant-loop-leg l = record {
  kept : (x : ℕ) → IsKept l.tables x (get nat_cmp l.table x);
  no_less : (x : ℕ) → All (IsNoLess l.tables x (get nat_cmp l.table x)) (map borrowed (take l.leg-index l.firsts));
}
