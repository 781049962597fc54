use Rattle.mcv_symbolic.proofs.CoveredByMembers.{covered_by_members}
use Rattle.mcv_blocks.proofs.JustifiedIsCovered.{justified_is_covered}
use Rattle.mcv_blocks.proofs.laws.justified_is_covered.Goals as goal

pub returns : goal.returns
returns c = justified_is_covered covered_by_members
