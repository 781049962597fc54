use Rattle.std.proofs.Common.{◌≡◌, ◌∙◌, List, map, ap, subst}
use Rattle.std.specs.Borrow.{Bor}
use Rattle.std.proofs.lemmas.Result.{IfOk-weaker}
use Rattle.mcv_route.specs.Outcomes.{Choice}
use Rattle.mcv_rules.specs.declared.plan.PlannedLeg.{PlannedLeg}
use Rattle.mcv_symbolic.specs.Case.{CaseValue}
use Rattle.mcv_symbolic.specs.Sets.{AreLegsAt, IsAcknowledged}
use Rattle.mcv_make.specs.FreeIndexes.{free_indexes}
use Rattle.mcv_make.proofs.scene.Scene.choice.Goals as goal

pub returns : goal.returns
returns c =
    let legs = map (λ (l : Bor PlannedLeg). l.now) c.in_ok-legs.legs.items in
    let given = map (λ (l : Bor PlannedLeg). l.now) c.as_slice.result.now in
    let are = subst (λ (k : CaseValue). (d : Choice) → AreLegsAt k.tree (IsAcknowledged k.tree k.rest k.since d) legs) c.in_ok-case.ensures c.in_ok-legs.ensures in
    let same : given ≡ legs = ap (map (λ (l : Bor PlannedLeg). l.now)) c.as_slice.ensures.value in
    IfOk-weaker c.free_choice.result _ _
    (λ chosen e. (legs, are, e ∙ ap (λ (ls : List PlannedLeg). free_indexes ls c.args.server.0 c.args.own c.args.at 0 c.args.symbols.now) same)) c.free_choice.ensures
