use Rattle.std.proofs.Common.{refl}
use Rattle.mcv_turn.proofs.landing.lose.Goals as goal

pub returns-in-Ok : goal.returns-in-Ok
returns-in-Ok g c = record { mid = c.lost.new.self; event = c.in-Ok.ensures; marked = c.mark.ensures; refused = tt }

pub returns-in-Err : goal.returns-in-Err
returns-in-Err g c = record { mid = c.lost.new.self; event = c.in-Err.ensures; marked = tt; refused = refl }
