use Rattle.std.proofs.Common.{◌≡◌, ◌++◌, replicate}
use Rattle.mcv_spool.proofs.record.pad.Given as goal

abbrev pub invariant-loop-place : goal.invariant-loop-place
invariant-loop-place l = l.bytes.items ≡ l.fn.bytes.items ++ replicate l._place 0
