use Rattle.std.proofs.Common.{◌≡◌, take}
use Rattle.mcv_pools.specs.Choice.{chosen_each}
use Rattle.mcv_pools.proofs.choice.choose.Given as goal

abbrev pub invariant-loop-symbol : goal.invariant-loop-symbol
invariant-loop-symbol g l = l.indexes.items ≡ chosen_each (g.H.KeyHash.chosen l.hash) (take l.symbol-index l.symbols) l.part
