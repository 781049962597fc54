use Rattle.std.proofs.Common.{subst, sym}
use Rattle.std.specs.Arc.{arc_value}
use Rattle.mcv_session.specs.Desk.{answer_value}
use Rattle.mcv_text.specs.Request.{request_value}
use Rattle.mcv_turn.specs.Answers.{IsAnswer}
use Rattle.mcv_turn.specs.Question.{IsDone, QuestionView}
use Rattle.mcv_turn.proofs.Outcomes.{answered}
use Rattle.mcv_turn.proofs.question.Question.into_answer.Goals as goal

pub returns-clause-answer : goal.returns-clause-answer
returns-clause-answer g c =
    let start = g.B.HubLedger.opened in
    let q = c.self.inside in
    let was = c.self.invariant in
    let request = request_value (arc_value q.request) in
    let outcome = c.outcome_of-outcome.result in
    let done : IsDone (record { asker = q.asker; request = request; calls = q.calls.items; done = q.progress.done; refused = q.refused }) = subst IsDone (sym c.self.view_is) c.requires.done in
    let is : IsAnswer start request (answer_value outcome) =
    answered start request q.calls.items q.taken.items q.progress.done q.progress.missed q.refused outcome done.all done.each was.begun was.so_far was.refusal
    (rw (c.requires.routes, c.deref.ensures) at c.outcome_of-outcome.ensures.ok) (rw (c.requires.routes, c.deref.ensures) at c.outcome_of-outcome.ensures.err) in
    subst (λ (v : QuestionView). IsAnswer start v.request (answer_value outcome)) c.self.view_is is
