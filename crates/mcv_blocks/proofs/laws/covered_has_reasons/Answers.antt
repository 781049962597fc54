use Rattle.mcv_symbolic.proofs.CoveredByMembers.{covered_by_members}
use Rattle.mcv_blocks.proofs.CoveredHasReasons.{covered_has_reasons}
use Rattle.mcv_blocks.proofs.laws.covered_has_reasons.Goals as goal

pub returns : goal.returns
returns c = covered_has_reasons covered_by_members
