use Rattle.std.proofs.Common.{◌≡◌, ◌-◌}
use Rattle.std.specs.BTreeSet.{contains}
use Rattle.mcv_make.specs.FreeIndexes.{least_free, slot_cmp}
use Rattle.mcv_make.proofs.free.least_free.Given as goal

abbrev pub invariant-loop-index : goal.invariant-loop-index
invariant-loop-index l = least_free (λ j. contains slot_cmp l.taken (l.symbol, j)) l.index (l.n - l.index) ≡ least_free (λ j. contains slot_cmp l.taken (l.symbol, j)) 0 l.n
