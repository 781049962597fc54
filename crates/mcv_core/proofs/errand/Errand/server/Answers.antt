use Rattle.std.proofs.Common.{◌≡◌, ◌∙◌, sym, ap, rules, get_or}
use Rattle.mcv_base.specs.declared.request.ServerId.{ServerId}
use Rattle.mcv_plan.specs.Evaluation.{no_leg}
use Rattle.mcv_core.specs.Errands.{launches_of}
use Rattle.mcv_core.proofs.StateFollowsOutcomes.{launch_get}
use Rattle.mcv_core.proofs.errand.Errand.server.Goals as goal

pub returns-in-Some : goal.returns-in-Some
returns-in-Some c =
    let e = c.args.self.now in
    let h : c.in-Some.launch.now.server ≡ (get_or (launches_of e) e.entry no_leg).server = search rules in
    h ∙ sym (ap (λ v. v.server) (launch_get (launches_of e) e.entry))

pub returns-in-None : goal.returns-in-None
returns-in-None c =
    let e = c.args.self.now in
    let none : ServerId = record { 0 = 0 } in
    let h : none ≡ (get_or (launches_of e) e.entry no_leg).server = search rules in
    h ∙ sym (ap (λ v. v.server) (launch_get (launches_of e) e.entry))
