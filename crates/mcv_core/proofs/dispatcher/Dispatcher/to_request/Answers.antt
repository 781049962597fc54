use Rattle.std.proofs.Common.{◌≡◌, ◌∙◌, ap, rules, Some}
use Rattle.std.specs.Arc.{arc_value}
use Rattle.mcv_queues.specs.Queues.{legs}
use Rattle.mcv_core.specs.Calls.{calls_at}
use Rattle.mcv_core.specs.Requests.{asked_by, asked_of}
use Rattle.mcv_core.proofs.Requests.{asked_there}
use Rattle.mcv_core.proofs.dispatcher.Dispatcher.to_request.Goals as goal

pub returns-in_ok-errand_request-in-Some : goal.returns-in_ok-errand_request-in-Some
returns-in_ok-errand_request-in-Some c =
    let d = c.args.self.now in
    let at : Some c.in-Some.row.now ≡ legs d.queues c.args.leg.0 = search rules in
    let asks : asked_by c.in_ok-errand_request-in-Some.field-0 ≡ asked_of (arc_value d.accepted) (calls_at d.calls) c.in-Some.row.now.content = search rules in
    ap Some asks ∙ asked_there d c.args.leg.0 c.in-Some.row.now at
