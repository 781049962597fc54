use Rattle.mcv_draw.proofs.Escaping as escaping
use Rattle.mcv_draw.proofs.laws.texts_are_quoted.Goals as goal

pub returns : goal.returns
returns c = escaping.texts_are_quoted
