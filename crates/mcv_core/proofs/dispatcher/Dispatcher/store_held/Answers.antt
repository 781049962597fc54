use Rattle.std.proofs.Common.{◌∙◌, refl, sym, ap, subst, Some, true≢false}
use Rattle.mcv_base.specs.Reply.{part_value}
use Rattle.mcv_queues.specs.Legs.{is_flight}
use Rattle.mcv_queues.specs.Queues.{legs}
use Rattle.mcv_queues.specs.declared.leg.State.TheVariants as states
use Rattle.mcv_events.specs.QueuedLegs.{count_in}
use Rattle.mcv_events.specs.Rows.{is_unanswered}
use Rattle.mcv_core.specs.CoreView.{HasDone, at_row, step_to, stores}
use Rattle.mcv_core.specs.Rows.{awaiting_state, row_by, state_of}
use Rattle.mcv_core.specs.Settling.{settled_row}
use Rattle.mcv_core.specs.View.{core_view}
use Rattle.mcv_core.specs.declared.settle.Settling.TheVariants as kinds
use Rattle.mcv_core.specs.declared.step.Change.TheVariants as changes
use Rattle.mcv_core.specs.declared.step.LegState.TheVariants as leg_states
use Rattle.mcv_core.proofs.Landings
use Rattle.mcv_core.proofs.LegViews
use Rattle.mcv_core.proofs.dispatcher.Dispatcher.store_held.Goals as goal

pub settle-requires : goal.settle-requires
settle-requires c =
    let d = c.args.self.now in
    let l = Landings.stated (legs d.queues c.args.leg.0) states.Held c.requires in
    record {
      owner = c.owner_of-owner.ensures;
      sent = λ e. absurd (true≢false (sym e));
      can = Landings.can_settle d c.args.leg.0 l.leg l.at (kinds.InSpool c.args.seq) (ap (λ t. is_unanswered (awaiting_state t)) l.is) (ap is_flight l.is) (ap (λ t. count_in (state_of t)) l.is)
          (λ e. Landings.counted_held d c.args.leg.0 l.leg l.at (ap (λ t. is_unanswered (state_of t)) l.is));
      one = c.not_found-reply.ensures.taken ∙ sym c.not_found-reply.ensures.outcome;
    }

pub returns : goal.returns
returns c =
    let d = c.args.self.now in
    let l = Landings.stated (legs d.queues c.args.leg.0) states.Held c.requires in
    subst (λ o. HasDone (at_row (stores (core_view d) c.args.leg.0 c.args.seq) o) (core_view c.settle.new.self) (step_to leg_states.Spooled changes.Spooled)) (sym (LegViews.there d c.args.leg.0 l.leg l.at)) (
      refl,
      c.settle.ensures ∙ ap (settled_row (core_view d) c.args.leg.0 (kinds.InSpool c.args.seq) (part_value c.not_found-reply.result.outcome)) (LegViews.there d c.args.leg.0 l.leg l.at)
          ∙ ap (λ x. settled_row (core_view d) c.args.leg.0 (kinds.InSpool c.args.seq) x (Some (row_by state_of l.leg))) c.not_found-reply.ensures.outcome,
    )
