use Rattle.std.proofs.Common.{◌≡◌, sym, ap, ◌∙◌}
use Rattle.mcv_route.specs.Reply.{reply}
use Rattle.mcv_route.specs.View.{view}
use Rattle.mcv_rules.specs.RouteCall.{situation_of}
use Rattle.mcv_rules.specs.History.{history_of}
use Rattle.mcv_rules.specs.Status.{status_of, status_outcome}
use Rattle.mcv_rules.specs.declared.status.Status.TheVariants.{Replied, Waits}
use Rattle.mcv_rules.proofs.StatusOfReply.{status_called, status_from, status_of_reply}
use Rattle.mcv_rules.proofs.eval.Eval.status.Goals as goal

-- the answer that the plan gives is the route's
waits : (c : goal.In-None) → Waits ≡ status_of c.args.self.now.op c.args.outcomes.now.answered.now (reply c.args.self.now.tree (situation_of c.args.self.now) (history_of c.args.outcomes.now.answered.now))
waits c =
    let e = c.self.inside in
    ap status_from (sym c.in-None.is)
    ∙ status_called c.args.self.now (view e.route.now) e.asked e.choice.now e.plan c.known.result.now c.args.outcomes.now.answered.now c.arrive.result c.self.view_is c.self.invariant.0 c.self.invariant.1 c.arrive.ensures c.known.ensures

replied : (c : goal.In-Some) → Replied c.in-Some.answer.source ≡ status_of c.args.self.now.op c.args.outcomes.now.answered.now (reply c.args.self.now.tree (situation_of c.args.self.now) (history_of c.args.outcomes.now.answered.now))
replied c =
    let e = c.self.inside in
    ap status_from (sym c.in-Some.is)
    ∙ status_called c.args.self.now (view e.route.now) e.asked e.choice.now e.plan c.known.result.now c.args.outcomes.now.answered.now c.arrive.result c.self.view_is c.self.invariant.0 c.self.invariant.1 c.arrive.ensures c.known.ensures

pub returns-in-None-clause-status : goal.returns-in-None-clause-status
returns-in-None-clause-status c = waits c

pub returns-in-None-clause-outcome : goal.returns-in-None-clause-outcome
returns-in-None-clause-outcome c =
    let call = c.args.self.now in
    let xs = c.args.outcomes.now.answered.now in
    ap (status_outcome xs) (waits c) ∙ status_of_reply call.op xs call.tree (situation_of call)

pub returns-in-Some-clause-status : goal.returns-in-Some-clause-status
returns-in-Some-clause-status c = replied c

pub returns-in-Some-clause-outcome : goal.returns-in-Some-clause-outcome
returns-in-Some-clause-outcome c =
    let call = c.args.self.now in
    let xs = c.args.outcomes.now.answered.now in
    ap (status_outcome xs) (replied c) ∙ status_of_reply call.op xs call.tree (situation_of call)
