use Rattle.std.proofs.Common.{◌<◌, ℕ, Some}
use Rattle.std.specs.Prelude.{◌≢◌, slice_get}
use Rattle.mcv_poll.proofs.addresses.place_of.Given as goal

-- it is at no place so far
abbrev pub invariant-loop-place : goal.invariant-loop-place
invariant-loop-place l = (i : ℕ) → i < l.place → slice_get l.addresses i ≢ Some l.address
