use Rattle.std.proofs.Common.{◌≡◌, ◌∙◌, List, [], ap, ap₂, option_map, slice_index, subst}
use Rattle.std.proofs.lemmas.Result.{IfOk-weaker}
use Rattle.mcv_route.specs.declared.launch.Answered.{Answered}
use Rattle.mcv_route.specs.Launched.{launched}
use Rattle.mcv_route.specs.Outcomes.{outcomes}
use Rattle.mcv_route.specs.Reply.{reply}
use Rattle.mcv_rules.specs.RouteCall.{situation_of}
use Rattle.mcv_rules.specs.History.{history_of}
use Rattle.mcv_rules.specs.Status.{status_outcome}
use Rattle.mcv_legs.specs.Text.{legs_text}
use Rattle.mcv_legs.proofs.legs.first_text.Goals as goal

pub returns : goal.returns
returns c =
    let call = c.args.eval.now in
    let none : c.in_ok-none.none.answered.now ≡ [] = c.in_ok-none.ensures in
    let sent = c.as_slice.ensures.value ∙ c.in_ok-legs.ensures
    ∙ ap (λ (xs : List Answered). launched call.tree (situation_of call) (slice_index call.choice) (outcomes (history_of xs))) none in
    let replied = c.outcome-reply.ensures
    ∙ subst (λ (xs : List Answered). status_outcome xs c.status.result ≡ option_map (λ a. a.outcome) (reply call.tree (situation_of call) (history_of xs))) none c.status.ensures.outcome in
    IfOk-weaker c.legs_text.result _ _ (λ text is. is ∙ ap₂ (legs_text c.args.servers.now) sent replied) c.legs_text.ensures
