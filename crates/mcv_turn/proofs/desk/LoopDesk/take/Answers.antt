use Rattle.mcv_turn.proofs.OpenRequests.{none_changes, still_open}
use Rattle.mcv_turn.proofs.desk.LoopDesk.take.Goals as goal

pub returns-clause-run : goal.returns-clause-run
returns-clause-run g c = c.take_at-has_memory.ensures.run

pub returns-clause-same : goal.returns-clause-same
returns-clause-same g c = still_open c.args.self.now.questions c.take_at-has_memory.new.questions c.note_taken.new.self.questions c.take_at-has_memory.ensures.same (none_changes c.take_at-has_memory.new.questions c.note_taken.new.self.questions c.note_taken.ensures)
