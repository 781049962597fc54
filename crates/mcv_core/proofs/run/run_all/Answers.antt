use Rattle.std.proofs.Common.{[], subst}
use Rattle.std.specs.Arc.{arc_value}
use Rattle.mcv_symbolic.specs.CoveredRoutes.{AreCovered}
use Rattle.mcv_core.specs.Opening.{opened_view}
use Rattle.mcv_core.specs.Steps.{AreAnswered}
use Rattle.mcv_core.specs.View.{core_view}
use Rattle.mcv_core.proofs.DeletesStayKept
use Rattle.mcv_core.proofs.run.run_all.Goals as goal

pub returns-clause-kept : goal.returns-clause-kept
returns-clause-kept g c =
    let h = g.H.KeyHash.chosen in
    let r = arc_value c.args.accepted in
    let events = c.args.events.items in
    let w = core_view c.run.new.self.dispatcher in
    let covered : AreCovered r = subst (λ v. AreCovered v.routes) c.in_ok-core.ensures.view c.in_ok-core.ensures.keeps.covered in
    let answered : AreAnswered (h c.in_ok-core.core.hash) (core_view c.in_ok-core.core.dispatcher) events c.in_ok-answers.answers.items w = c.in_ok-answers.ensures.answered in
    let from : AreAnswered (h c.args.hash) (opened_view r []) events c.in_ok-answers.answers.items w =
    subst (λ v. AreAnswered (h c.args.hash) v events c.in_ok-answers.answers.items w) c.in_ok-core.ensures.view
    (subst (λ k. AreAnswered (h k) (core_view c.in_ok-core.core.dispatcher) events c.in_ok-answers.answers.items w) c.in_ok-core.ensures.hash answered) in
    DeletesStayKept.deletes_are_kept (h c.args.hash) r [] events c.in_ok-answers.answers.items w covered from
