use Rattle.std.proofs.Common.{◌≡◌, ◌∙◌, [], sym, ap, rules, get_or}
use Rattle.mcv_plan.specs.Evaluation.{no_leg}
use Rattle.mcv_core.proofs.StateFollowsOutcomes.{launch_get}
use Rattle.mcv_core.proofs.request.position_at.Goals as goal

pub returns-in-Some : goal.returns-in-Some
returns-in-Some c =
    let h : c.in-Some.launch.now.position ≡ (get_or c.args.launches.now c.args.entry no_leg).position = search rules in
    c.steps.ensures ∙ h ∙ sym (ap (λ v. v.position) (launch_get c.args.launches.now c.args.entry))

pub returns-in-None : goal.returns-in-None
returns-in-None c =
    let h : [] ≡ (get_or c.args.launches.now c.args.entry no_leg).position = search rules in
    h ∙ sym (ap (λ v. v.position) (launch_get c.args.launches.now c.args.entry))
