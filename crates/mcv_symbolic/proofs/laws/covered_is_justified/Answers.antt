use Rattle.mcv_symbolic.proofs.AlikeAreCovered.{alike_are_covered}
use Rattle.mcv_symbolic.proofs.StructureBySets.{covered_is_justified}
use Rattle.mcv_symbolic.proofs.CoveredByMembers.{covered_by_members, covered_for_less, covered_in_one_era}
use Rattle.mcv_symbolic.proofs.laws.covered_is_justified.Goals as goal

pub returns : goal.returns
returns c = record { justified = covered_is_justified; class = alike_are_covered; members = covered_by_members; less = covered_for_less; one = covered_in_one_era }
