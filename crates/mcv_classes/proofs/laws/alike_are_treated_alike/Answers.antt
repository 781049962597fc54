use Rattle.mcv_classes.proofs.AlikeRests.{alike_are_sent, alike_are_replied, alike_are_answered}
use Rattle.mcv_classes.proofs.laws.alike_are_treated_alike.Goals as goal

pub returns : goal.returns
returns c = record { sent = alike_are_sent; replied = alike_are_replied; answered = alike_are_answered }
