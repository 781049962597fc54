use Rattle.std.proofs.Common.{ap, refl}
use Rattle.std.specs.Arc.{arc_value}
use Rattle.slab.specs.Slab.{Slab}
use Rattle.mcv_text.specs.Request.{request_value}
use Rattle.mcv_turn.specs.Question.{QuestionView}
use Rattle.mcv_turn.proofs.OpenRequests.{in_any_case, none_changes, one_opens, slots_same}
use Rattle.mcv_turn.proofs.desk.LoopDesk.ask.Goals as goal

pub returns-in_err-question-clause-err : goal.returns-in_err-question-clause-err
returns-in_err-question-clause-err g c = in_any_case c.from_residual.result (none_changes c.args.self.now.questions c.args.self.now.questions refl)

pub returns-in_err-make_room-clause-err : goal.returns-in_err-make_room-clause-err
returns-in_err-make_room-clause-err g c = in_any_case c.from_residual-in_err-make_room.result (none_changes c.args.self.now.questions c.args.self.now.questions refl)

pub returns-in_err-number-clause-err : goal.returns-in_err-number-clause-err
returns-in_err-number-clause-err g c = in_any_case c.from_residual-in_err-number.result (slots_same c.args.self.now.questions c.insert.new.self (ap (λ (s : Slab QuestionView). s.slots) c.in_err-number.ensures.err))

pub returns-clause-asked : goal.returns-clause-asked
returns-clause-asked g c =
    one_opens c.args.self.now.questions c.insert.new.self c.in_ok-number.number c.in_ok-question.question c.args.asker (request_value (arc_value c.args.request)) (ap (λ (q : QuestionView). q.asker) c.in_ok-question.ensures)
    (ap (λ (q : QuestionView). q.request) c.in_ok-question.ensures) c.in_ok-number.ensures.was_vacant c.in_ok-number.ensures.updates
