use Rattle.std.proofs.Common.{◌≡◌, ◌∙◌, Some, rules}
use Rattle.mcv_core.specs.Calls.{calls_at}
use Rattle.mcv_core.proofs.TakenReplies
use Rattle.mcv_core.proofs.dispatcher.Dispatcher.can_take.Goals as goal

pub returns-in-Some : goal.returns-in-Some
returns-in-Some c =
    let d = c.args.self.now in
    let there : calls_at d.calls c.args.call.0 ≡ Some c.in-Some.running.now = search rules in
    c.can_be_taken.ensures ∙ TakenReplies.can_take_is d c.args.call.0 c.in-Some.running.now there
