use Rattle.mcv_comments.proofs.OneReading.{reads_one}
use Rattle.mcv_comments.proofs.laws.one_reading.Goals as goal

pub returns : goal.returns
returns c = λ text ps qs a b. reads_one text ps qs a b
