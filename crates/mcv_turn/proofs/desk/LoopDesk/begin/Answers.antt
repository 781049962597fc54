use Rattle.mcv_turn.proofs.OpenRequests.{none_changes, still_open}
use Rattle.mcv_turn.proofs.desk.LoopDesk.begin.Goals as goal

pub returns-clause-run : goal.returns-clause-run
returns-clause-run g c = c.begin_at-refused.ensures.run

pub returns-clause-same : goal.returns-clause-same
returns-clause-same g c = still_open c.args.self.now.questions c.begin_at-refused.new.questions c.note_begun.new.self.questions c.begin_at-refused.ensures.same (none_changes c.begin_at-refused.new.questions c.note_begun.new.self.questions c.note_begun.ensures)
