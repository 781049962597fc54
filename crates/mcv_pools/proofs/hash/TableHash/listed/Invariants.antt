use Rattle.std.proofs.Common.{◌≡◌, drop, map}
use Rattle.mcv_pools.specs.Hash.{listed}
use Rattle.mcv_pools.proofs.hash.TableHash.listed.Given as goal

abbrev pub invariant-loop-listed : goal.invariant-loop-listed
invariant-loop-listed l = listed l.fn.self l.part ≡ listed (map (λ row. (row.0.items, row.1)) (drop l.listed-index l.listed-items)) l.part
