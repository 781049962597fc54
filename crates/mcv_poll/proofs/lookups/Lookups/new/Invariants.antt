use Rattle.std.proofs.Common.{◌≡◌}
use Rattle.std.specs.Prelude.{vec_len}
use Rattle.mcv_poll.proofs.lookups.Lookups.new.Given as goal

-- one for each server so far
abbrev pub invariant-loop-server : goal.invariant-loop-server
invariant-loop-server l = vec_len l.all ≡ l._server
