use Rattle.std.proofs.Common.{[], arith}
use Rattle.std.proofs.lemmas.List.Elements.{All-cons, All-nil}
use Rattle.mcv_verifier_tests.proofs.Order.{Before, HasIndex, alone, four_rise}
use Rattle.mcv_verifier_tests.proofs.judge.reported_at.Goals as goal

pub number_reported-requires : goal.number_reported-requires
number_reported-requires c = record {
  readable = alone Before _;
  indexed = All-cons HasIndex _ [] (omega arith) (All-nil HasIndex);
  acknowledged = four_rise _ _ _ _ c.requires.first c.requires.second c.requires.third c.requires.fourth;
}
