use Rattle.std.proofs.Common.{◌≡◌, take}
use Rattle.mcv_tally.specs.Tally.{listed, tallied}
use Rattle.mcv_tally.proofs.tally.Tally.servers.Given as goal

abbrev pub invariant-loop-number : goal.invariant-loop-number
invariant-loop-number l = listed l.counts.items ≡ tallied (take l.number l.server-items)
