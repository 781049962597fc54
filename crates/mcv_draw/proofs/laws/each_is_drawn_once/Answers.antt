use Rattle.mcv_draw.proofs.DrawnApart as apart
use Rattle.mcv_draw.proofs.laws.each_is_drawn_once.Goals as goal

pub returns : goal.returns
returns c = apart.each_is_drawn_once
