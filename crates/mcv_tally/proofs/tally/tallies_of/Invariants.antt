use Rattle.std.proofs.Common.{◌≡◌, take}
use Rattle.mcv_tally.specs.Tally.{tallied}
use Rattle.mcv_tally.proofs.tally.tallies_of.Given as goal

abbrev pub invariant-loop-number : goal.invariant-loop-number
invariant-loop-number l = tallied l.tallies.items ≡ take l.number l.servers
