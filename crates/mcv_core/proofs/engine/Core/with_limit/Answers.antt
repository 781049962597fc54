use Rattle.std.proofs.Common.{◌≡◌, sym, subst, rules}
use Rattle.std.specs.Arc.{arc_value}
use Rattle.mcv_events.specs.Rows.{world_of}
use Rattle.mcv_symbolic.specs.CoveredRoutes.{AreCovered}
use Rattle.mcv_core.specs.KeptDeletes.{KeepsDeletes}
use Rattle.mcv_core.specs.Opening.{opened_within}
use Rattle.mcv_core.specs.View.{core_view}
use Rattle.mcv_core.proofs.DeletesStayKept
use Rattle.mcv_core.proofs.engine.Core.with_limit.Goals as goal

pub returns-clause-view : goal.returns-clause-view
returns-clause-view g c = subst (λ v. core_view c.in_ok-dispatcher.dispatcher ≡ opened_within v (arc_value c.args.accepted) c.args.records.now) c.get.ensures.value c.in_ok-dispatcher.ensures.view

pub returns-clause-keeps : goal.returns-clause-keeps
returns-clause-keeps g c =
    let r = arc_value c.args.accepted in
    let same : c.deref.result.now ≡ r = search rules in
    let covered : AreCovered r = subst AreCovered same c.deletes_are_covered.ensures in
    subst (λ v. KeepsDeletes v (world_of v.rows)) (sym c.in_ok-dispatcher.ensures.view) (DeletesStayKept.opened_cores_keep_deletes c.get.result r c.args.records.now covered)
