use Rattle.std.proofs.Common.{◌≡◌, ℕ, false}
use Rattle.std.specs.BTreeSet.{contains}
use Rattle.std.specs.List.{Contains}
use Rattle.std.specs.Ordering.{nat_cmp}
use Rattle.mcv_judge.specs.PairsInMemory.{leg_of}
use Rattle.mcv_gaps.proofs.missing.unsent.Given as goal

abbrev pub invariant-loop-server : goal.invariant-loop-server
invariant-loop-server l = (x : ℕ) → Contains l.unsent.items x → Contains (leg_of l.leg).servers x × (contains nat_cmp l.sent x ≡ false)
