use Rattle.std.proofs.Common.{◌≡◌, map, take}
use Rattle.mcv_make.specs.FreeIndexes.{free_indexes}
use Rattle.mcv_make.proofs.free.free_choice.Given as goal

abbrev pub invariant-loop-number : goal.invariant-loop-number
invariant-loop-number l = l.indexes.items ≡ free_indexes (map (λ d. d.now) l.legs) l.fn.server.0 l.own l.at 0 (take l.number l.symbols)
