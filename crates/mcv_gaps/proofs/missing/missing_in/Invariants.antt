use Rattle.std.proofs.Common.{take}
use Rattle.mcv_gaps.specs.Gaps.{wanteds_of}
use Rattle.mcv_gaps.proofs.MissedSoFar.{IsFoundOf}
use Rattle.mcv_gaps.proofs.missing.missing_in.Given as goal

abbrev pub invariant-loop-one : goal.invariant-loop-one
invariant-loop-one l = IsFoundOf (wanteds_of l.wanted) l.found (wanteds_of (take l.one-index l.wanted))
