use Rattle.std.proofs.Common.{◌∙◌, sym, ap, true≢false}
use Rattle.mcv_base.specs.Reply.{part_value}
use Rattle.mcv_queues.specs.Legs.{is_flight}
use Rattle.mcv_queues.specs.Queues.{legs}
use Rattle.mcv_queues.specs.declared.leg.State.TheVariants as states
use Rattle.mcv_events.specs.QueuedLegs.{count_in}
use Rattle.mcv_events.specs.Rows.{is_unanswered}
use Rattle.mcv_core.specs.Rows.{awaiting_state, state_of}
use Rattle.mcv_core.specs.View.{core_view}
use Rattle.mcv_core.specs.declared.settle.Settling.TheVariants as kinds
use Rattle.mcv_core.proofs.Landings
use Rattle.mcv_core.proofs.dispatcher.Dispatcher.refuse.Goals as goal

pub settle-requires : goal.settle-requires
settle-requires c =
    let d = c.args.self.now in
    let l = Landings.stated (legs d.queues c.args.leg.0) states.Held c.requires in
    record {
      owner = c.owner_of-owner.ensures;
      sent = λ e. absurd (true≢false (sym e));
      can = Landings.can_settle d c.args.leg.0 l.leg l.at kinds.Refused (ap (λ t. is_unanswered (awaiting_state t)) l.is) (ap is_flight l.is) (ap (λ t. count_in (state_of t)) l.is)
          (λ e. Landings.counted_held d c.args.leg.0 l.leg l.at (ap (λ t. is_unanswered (state_of t)) l.is));
      one = c.lost-reply.ensures.taken ∙ sym c.lost-reply.ensures.outcome;
    }

pub returns : goal.returns
returns c =
    let d = c.args.self.now in
    let l = Landings.stated (legs d.queues c.args.leg.0) states.Held c.requires in
    Landings.refused_done d c.args.leg.0 l.leg l.at l.is (part_value c.lost-reply.result.outcome) c.lost-reply.ensures.outcome (core_view c.settle.new.self) c.settle.ensures
