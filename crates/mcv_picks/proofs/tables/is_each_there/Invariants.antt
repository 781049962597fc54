use Rattle.std.proofs.Common.{◌≡◌, drop}
use Rattle.std.specs.Prelude.{is_some}
use Rattle.mcv_judge.specs.PairsInMemory.{numbers}
use Rattle.mcv_picks.specs.Picks.{each_with}
use Rattle.mcv_picks.proofs.tables.is_each_there.Given as goal

abbrev pub invariant-loop-index : goal.invariant-loop-index
invariant-loop-index l = is_some (each_with l.tables l.symbol l.server.0 l.index (numbers (drop l.index l.servers))) ≡ is_some (each_with l.tables l.symbol l.server.0 0 (numbers l.servers))
