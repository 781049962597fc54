use Rattle.std.proofs.Common.{◌≡◌, drop}
use Rattle.mcv_loop.specs.Oldest.{oldest_since}
use Rattle.mcv_loop.proofs.lines.oldest_since.Given as goal

abbrev pub invariant-loop-entry : goal.invariant-loop-entry
invariant-loop-entry g l = oldest_since l.oldest (drop l.entry-index l.entries) ≡ oldest_since l.initial.oldest l.entries
