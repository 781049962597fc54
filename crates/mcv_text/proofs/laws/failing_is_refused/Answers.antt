use Rattle.mcv_text.proofs.FailingIsRefused.{reads_fail}
use Rattle.mcv_text.proofs.laws.failing_is_refused.Goals as goal

pub returns : goal.returns
returns c = λ from items reads. reads_fail from items reads
