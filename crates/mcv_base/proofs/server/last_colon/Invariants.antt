use Rattle.std.proofs.Common.{◌≡◌, length}
use Rattle.mcv_base.specs.Server.{colon, last_below}
use Rattle.mcv_base.proofs.server.last_colon.Given as goal

abbrev pub invariant-loop-place : goal.invariant-loop-place
invariant-loop-place l = last_below colon l.bytes (length l.bytes) ≡ last_below colon l.bytes l.place
