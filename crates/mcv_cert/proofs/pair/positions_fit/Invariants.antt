use Rattle.std.proofs.Common.{take}
use Rattle.std.specs.List.{All}
use Rattle.mcv_cert.specs.Fits.{FitsPosition}
use Rattle.mcv_cert.proofs.pair.positions_fit.Given as goal

abbrev pub invariant-loop-position : goal.invariant-loop-position
invariant-loop-position l = All FitsPosition (take l.position-index l.positions)
