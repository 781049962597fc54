use Rattle.mcv_pairs.proofs.OneListOfPairs.{one_list}
use Rattle.mcv_pairs.proofs.laws.one_list_of_pairs.Goals as goal

pub returns : goal.returns
returns c = λ b ps qs order h every g each. one_list b ps qs order h every g each
