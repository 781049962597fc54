use Rattle.mcv_text.proofs.LegTexts.{leg_reads}
use Rattle.mcv_text.proofs.laws.leg_texts_are_read.Goals as goal

pub returns : goal.returns
returns c = λ leg is. leg_reads leg is
