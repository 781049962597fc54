use Rattle.mcv_comments.proofs.OneReading.{strips_one}
use Rattle.mcv_comments.proofs.laws.one_stripping.Goals as goal

pub returns : goal.returns
returns c = λ text out other a b. strips_one text out other a b
