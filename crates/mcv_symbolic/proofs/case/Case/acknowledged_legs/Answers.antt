use Rattle.std.proofs.Common.{◌++◌, Bor, map, ap, ◌∙◌, option_map}
use Rattle.std.proofs.lemmas.Simd.{map-map}
use Rattle.mcv_rules.specs.declared.plan.PlannedLeg.{PlannedLeg}
use Rattle.mcv_route.specs.View.{view}
use Rattle.mcv_rules.specs.NormalForm.{leg_of, whole_of}
use Rattle.mcv_symbolic.specs.SetLists.{acknowledged}
use Rattle.mcv_symbolic.proofs.CaseSets.{acknowledged_of}
use Rattle.mcv_symbolic.proofs.case.Case.acknowledged_legs.Goals as goal

pub returns : goal.returns
returns c =
    let e = c.self.inside in
    acknowledged_of c.args.self.now (view e.route.now) e.asked.op e.asked.rest.now (option_map (λ m. m.0) e.asked.since) (whole_of e.plan) c.self.view_is c.self.invariant c.requires _
    (map-map leg_of (λ (l : Bor PlannedLeg). l.now) c.push_acknowledged.new.legs.items ∙ c.in_ok-push_acknowledged.ensures.legs ∙ ap (λ ls. map (λ l. leg_of l.now) ls ++ acknowledged (whole_of e.plan)) c.new-legs.ensures.items)
