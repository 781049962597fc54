use Rattle.std.proofs.Common.{◌≡◌, ℕ, true, take}
use Rattle.std.specs.BTreeSet.{contains}
use Rattle.std.specs.List.{Contains}
use Rattle.std.specs.Ordering.{nat_cmp}
use Rattle.mcv_judge.specs.PairsInMemory.{numbers}
use Rattle.mcv_gaps.proofs.missing.insert_servers.Given as goal

-- those that were there, and the servers so far
abbrev pub invariant-loop-server : goal.invariant-loop-server
invariant-loop-server l = record {
  kept : (x : ℕ) → contains nat_cmp l.initial.servers x ≡ true → contains nat_cmp l.servers x ≡ true;
  own : (x : ℕ) → Contains (numbers (take l.server-index l.leg.servers.now)) x → contains nat_cmp l.servers x ≡ true;
}
