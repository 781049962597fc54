use Rattle.std.proofs.Common.{◌∙◌, ap, refl, subst, sym}
use Rattle.mcv_base.specs.declared.request.Request.{Request}
use Rattle.mcv_session.specs.Desk.{answer_value}
use Rattle.mcv_text.specs.Request.{request_value}
use Rattle.mcv_desks.specs.Desks.{AsksHubs}
use Rattle.mcv_desks.specs.Mixed.{IsDone}
use Rattle.mcv_desks.proofs.MixedRequests.{all_left, is_there, none_changes, one_gone, one_left, others_stay, same_value}
use Rattle.mcv_desks.proofs.desks.take_done.Goals as goal

pub returns-in_default-clause-left : goal.returns-in_default-clause-left
returns-in_default-clause-left g c = all_left c.args.mixed.now c.args.mixed.now (none_changes c.args.mixed.now c.args.mixed.now refl)

pub returns-then-not-is_done-clause-left : goal.returns-then-not-is_done-clause-left
returns-then-not-is_done-clause-left g c = all_left c.args.mixed.now c.args.mixed.now (none_changes c.args.mixed.now c.args.mixed.now refl)

pub returns-in_default-try_remove-clause-left : goal.returns-in_default-try_remove-clause-left
returns-in_default-try_remove-clause-left g c = all_left c.args.mixed.now c.try_remove.new.self (none_changes c.args.mixed.now c.try_remove.new.self c.in_default-try_remove.ensures.absent)

pub into_answer-requires : goal.into_answer-requires
into_answer-requires g c = subst IsDone (same_value c.in-Some.one.now c.in-Some-try_remove.done (c.in-Some.ensures ∙ sym c.in-Some-try_remove.ensures.value)) (c.is_done.ensures c.if-not-is_done.false)

pub returns-clause-answer : goal.returns-clause-answer
returns-clause-answer g c = record {
  its = c.in-Some-try_remove.done.request;
  there = is_there c.args.mixed.now c.args.place c.in-Some-try_remove.done (sym c.in-Some-try_remove.ensures.value);
  to = c.into_answer.ensures.asker;
  request_is = ap request_value c.into_answer.ensures.request;
  asks = subst (λ (r : Request). AsksHubs g.F.HubNames.opened_of c.in-Some-try_remove.done.request.hubs (request_value r) (answer_value c.into_answer.result.outcome)) (sym c.into_answer.ensures.request) c.into_answer.ensures.answer;
}

pub returns-clause-left : goal.returns-clause-left
returns-clause-left g c = one_left c.args.mixed.now c.try_remove.new.self c.args.place c.in-Some-try_remove.ensures.updates

pub returns-in_default-clause-others : goal.returns-in_default-clause-others
returns-in_default-clause-others g c = λ other apart. refl

pub returns-in_default-clause-none : goal.returns-in_default-clause-none
returns-in_default-clause-none g c = none_changes c.args.mixed.now c.args.mixed.now refl

pub returns-then-not-is_done-clause-others : goal.returns-then-not-is_done-clause-others
returns-then-not-is_done-clause-others g c = λ other apart. refl

pub returns-then-not-is_done-clause-none : goal.returns-then-not-is_done-clause-none
returns-then-not-is_done-clause-none g c = none_changes c.args.mixed.now c.args.mixed.now refl

pub returns-in_default-try_remove-clause-others : goal.returns-in_default-try_remove-clause-others
returns-in_default-try_remove-clause-others g c = λ other apart. none_changes c.args.mixed.now c.try_remove.new.self c.in_default-try_remove.ensures.absent other

pub returns-in_default-try_remove-clause-none : goal.returns-in_default-try_remove-clause-none
returns-in_default-try_remove-clause-none g c = none_changes c.args.mixed.now c.try_remove.new.self c.in_default-try_remove.ensures.absent

pub returns-clause-gone : goal.returns-clause-gone
returns-clause-gone g c = one_gone c.args.mixed.now c.try_remove.new.self c.args.place c.in-Some-try_remove.ensures.updates

pub returns-clause-others : goal.returns-clause-others
returns-clause-others g c = others_stay c.args.mixed.now c.try_remove.new.self c.args.place c.in-Some-try_remove.ensures.updates
