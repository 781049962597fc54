use Rattle.std.proofs.Common.{map, take}
use Rattle.mcv_judge.specs.PairsInMemory.{legs_of}
use Rattle.mcv_picks.specs.Picks.{borrowed}
use Rattle.mcv_picks.specs.Tables.{IsByTwinKey, FindTheSame}
use Rattle.mcv_picks.proofs.classes.classes.Given as goal

abbrev pub invariant-loop-leg : goal.invariant-loop-leg
invariant-loop-leg l = record {
  by_class : IsByTwinKey l.table (legs_of (take l.leg-index l.legs));
  firsts : FindTheSame (map borrowed l.firsts.items) (legs_of (take l.leg-index l.legs));
}
