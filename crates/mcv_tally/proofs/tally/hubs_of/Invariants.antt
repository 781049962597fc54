use Rattle.std.proofs.Common.{◌≡◌, length}
use Rattle.mcv_tally.specs.Tally.{HaveLevels}
use Rattle.mcv_tally.proofs.tally.hubs_of.Given as goal

abbrev pub invariant-loop-number : goal.invariant-loop-number
invariant-loop-number l = (length l.hubs.items ≡ l._number) × HaveLevels l.servers l.hubs.items
