use Rattle.std.proofs.Common.{◌≡◌, drop}
use Rattle.std.specs.Option.{option_map}
use Rattle.mcv_judge.specs.PairsInMemory.{legs_of}
use Rattle.mcv_judge.specs.Reason.{have_server}
use Rattle.mcv_judge.proofs.reasons.have_server.Given as goal

abbrev pub invariant-loop-index : goal.invariant-loop-index
invariant-loop-index l = have_server (legs_of l.legs) l.symbol (option_map (λ s. s.0) l.server) l.index (drop l.index l.positions) ≡ have_server (legs_of l.legs) l.symbol (option_map (λ s. s.0) l.server) 0 l.positions
