use Rattle.std.proofs.Common.{refl, subst, sym}
use Rattle.std.specs.Prelude.{IfSome}
use Rattle.std.specs.Arc.{arc_value}
use Rattle.mcv_text.specs.Request.{request_value}
use Rattle.mcv_turn.specs.Question.{IsDone}
use Rattle.mcv_turn.proofs.OpenRequests.{none_changes, one_closes}
use Rattle.mcv_turn.proofs.desk.LoopDesk.answer.Goals as goal

pub returns-in_default-clause-none : goal.returns-in_default-clause-none
returns-in_default-clause-none g c = none_changes c.args.self.now.questions c.args.self.now.questions refl

pub returns-in_default-try_remove-clause-none : goal.returns-in_default-try_remove-clause-none
returns-in_default-try_remove-clause-none g c = none_changes c.args.self.now.questions c.try_remove.new.self c.in_default-try_remove.ensures.absent

pub into_answer-requires-clause-done : goal.into_answer-requires-clause-done
into_answer-requires-clause-done g c = subst (λ o. IfSome o IsDone) (sym c.in-Some-try_remove.ensures.value) c.in-Some.ensures

pub returns-clause-closed : goal.returns-clause-closed
returns-clause-closed g c =
    one_closes c.args.self.now.questions c.try_remove.new.self c.in-Some.number c.in-Some-try_remove.question c.into_answer.result.asker (request_value (arc_value c.into_answer.result.request)) (sym c.into_answer.ensures.asker)
    (sym c.into_answer.ensures.request) (sym c.in-Some-try_remove.ensures.value) c.in-Some-try_remove.ensures.updates
