use Rattle.std.proofs.Common.{◌≡◌, length}
use Rattle.mcv_tally.proofs.tally.levels_of.Given as goal

abbrev pub invariant-loop-server : goal.invariant-loop-server
invariant-loop-server l = length l.levels.items ≡ l._server
