use Rattle.std.proofs.Common.{◌∙◌, ap, subst, arith}
use Rattle.std.specs.Arc.{arc_value}
use Rattle.std.specs.Int.NonZero.{non_zero_usize_get}
use Rattle.mcv_core.specs.View.{core_view}
use Rattle.mcv_symbolic.specs.CoveredRoutes.{AreCovered}
use Rattle.mcv_hub.specs.RemainingEntries.{break_count}
use Rattle.mcv_hub.proofs.DueChapters.{opening_isnt_due}
use Rattle.mcv_hub.proofs.EventsMayWrite.{open_writes}
use Rattle.mcv_hub.proofs.Histories.{opened_holds}
use Rattle.mcv_hub.proofs.state.HubState.new.Goals as goal

pub invariant_of-state : goal.invariant_of-state
invariant_of-state g c =
    let entries = c.entries-before.ensures ∙ ap (λ d. (core_view d).entries) c.state.ensures in
    let fewer = open_writes (core_view c.in_ok-core.core.dispatcher) (non_zero_usize_get c.args.limit) (arc_value c.args.accepted) c.args.records.now c.in_ok-core.ensures.view in
    let count = c.count_breaks-breaks.ensures.count ∙ ap break_count c.deref.ensures in
    let places = c.in-Some.ensures.0 in (
      opened_holds g.B.HubLedger.opened (core_view c.in_ok-core.core.dispatcher) (non_zero_usize_get c.args.limit) (arc_value c.args.accepted) c.args.records.now _ _ _ _ _ _ _ c.requires.opened c.in_ok-core.ensures.view (subst AreCovered c.deref.ensures c.count_breaks-breaks.ensures.covered) c.in-Ok.ensures.items
          c.open-begun.ensures.total c.open-taken.ensures.total c.in-Ok.ensures.len (omega (arith, entries, fewer, count, places)) c.in-Ok.ensures.capacity c.in-Some.ensures.1 count,
      c.requires.number,
    )

pub returns-clause-due : goal.returns-clause-due
returns-clause-due g c = opening_isnt_due _ _ _ (c.entries-before.ensures ∙ ap (λ d. (core_view d).entries) c.state.ensures) c.in-Ok.ensures.items
