use Rattle.std.proofs.Common.{◌≡◌, ℕ, Some, cond, nat_eq, take}
use Rattle.std.specs.BTreeMap.{get}
use Rattle.std.specs.List.{list_any}
use Rattle.std.specs.Ordering.{nat_cmp}
use Rattle.mcv_judge.specs.PairsInMemory.{numbers}
use Rattle.mcv_gaps.specs.Least.{owner_of}
use Rattle.mcv_gaps.proofs.least.own_servers.Given as goal

-- put in for the servers so far
abbrev pub invariant-loop-server : goal.invariant-loop-server
invariant-loop-server l = (x : ℕ) → get nat_cmp l.owners x ≡ cond (list_any (nat_eq x) (numbers (take l.server-index l.leg.servers.now))) (Some (owner_of l.number (get nat_cmp l.initial.owners x))) (get nat_cmp l.initial.owners x)
