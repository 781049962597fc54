use Rattle.std.proofs.Common.{◌≡◌, drop}
use Rattle.mcv_witness.specs.Confirm.{rising_from}
use Rattle.mcv_witness.specs.Finding.{outcomes_of}
use Rattle.mcv_witness.proofs.replay.are_rising.Given as goal

-- the outcomes that are left decide the whole
abbrev pub invariant-loop-leg : goal.invariant-loop-leg
invariant-loop-leg l = rising_from l.before (outcomes_of (drop l.leg-index l.others)) ≡ rising_from l.initial.before (outcomes_of l.others)
