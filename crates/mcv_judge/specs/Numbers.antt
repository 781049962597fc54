-- The numbers of faults (own).
use Rattle.std.specs.Prelude.{ℕ}
use Rattle.mcv_judge.specs.declared.fault.PairFault.{PairFault}
use Rattle.mcv_judge.specs.declared.fault.PairFault.TheVariants.{Missing, Stray, NotAcknowledged, OtherServer, CanBeAcknowledged}

abbrev pub number_of : PairFault → ℕ
number_of Missing = 1
number_of Stray = 2
number_of NotAcknowledged = 3
number_of OtherServer = 4
number_of CanBeAcknowledged = 5
