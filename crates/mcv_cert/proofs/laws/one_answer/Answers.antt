use Rattle.mcv_cert.proofs.Unique.{says_one}
use Rattle.mcv_cert.proofs.laws.one_answer.Goals as goal

pub returns : goal.returns
returns c = says_one
