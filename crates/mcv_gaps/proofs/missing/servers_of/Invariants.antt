use Rattle.std.proofs.Common.{take}
use Rattle.mcv_judge.specs.PairsInMemory.{legs_of}
use Rattle.mcv_gaps.specs.Least.{HaveServers}
use Rattle.mcv_gaps.proofs.missing.servers_of.Given as goal

-- those of the legs so far
abbrev pub invariant-loop-leg : goal.invariant-loop-leg
invariant-loop-leg l = HaveServers l.servers (legs_of (take l.leg-index l.legs))
