use Rattle.mcv_base.proofs.HashedPart.{hashed_is_cut, one_hashed_cut}
use Rattle.mcv_base.proofs.key.hashed_part_is_a_cut.Goals as goal

pub returns-clause-cut : goal.returns-clause-cut
returns-clause-cut c = hashed_is_cut

pub returns-clause-one : goal.returns-clause-one
returns-clause-one c = one_hashed_cut
