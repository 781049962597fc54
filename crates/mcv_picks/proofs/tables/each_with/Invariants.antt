use Rattle.std.proofs.Common.{◌≡◌, drop, map}
use Rattle.mcv_judge.specs.PairsInMemory.{numbers}
use Rattle.mcv_picks.specs.Picks.{each_with, borrowed}
use Rattle.mcv_picks.proofs.GatheredLegs.{behind}
use Rattle.mcv_picks.proofs.tables.each_with.Given as goal

abbrev pub invariant-loop-index : goal.invariant-loop-index
invariant-loop-index l = behind (map borrowed l.legs.items) (each_with l.tables l.symbol l.server.0 l.index (numbers (drop l.index l.servers))) ≡ each_with l.tables l.symbol l.server.0 0 (numbers l.servers)
