use Rattle.mcv_turn.proofs.questions.next_done.Goals as goal

pub returns-then-is_done_at : goal.returns-then-is_done_at
returns-then-is_done_at g c = c.is_done_at.ensures c.if-is_done_at.true
