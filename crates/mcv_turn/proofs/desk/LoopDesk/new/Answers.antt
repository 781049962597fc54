use Rattle.mcv_turn.proofs.OpenRequests.{none_open}
use Rattle.mcv_turn.proofs.desk.LoopDesk.new.Goals as goal

pub returns : goal.returns
returns g c = none_open c.new-questions.result c.new-questions.ensures.empty
