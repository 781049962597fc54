use Rattle.mcv_comments.proofs.OneReading.{open_or_strips}
use Rattle.mcv_comments.proofs.laws.open_or_stripped.Goals as goal

pub returns : goal.returns
returns c = λ text out a b. open_or_strips text out a b
