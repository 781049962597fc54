use Rattle.std.proofs.Common.{◌≡◌, ◌∙◌, ◌&&◌, not, cond, sym, ap, subst, true≢false}
use Rattle.mcv_base.specs.Operation.{is_delete}
use Rattle.mcv_base.specs.Reply.{part_value}
use Rattle.mcv_queues.specs.Legs.{IsSentTo, is_flight}
use Rattle.mcv_queues.specs.Queues.{legs}
use Rattle.mcv_queues.specs.declared.leg.State.TheVariants as states
use Rattle.mcv_world.specs.Moves.{is_error_reply}
use Rattle.mcv_events.specs.QueuedLegs.{count_in}
use Rattle.mcv_events.specs.Rows.{is_unanswered}
use Rattle.mcv_core.specs.CoreView.{HasDone, at_row, finished, state_after, step_to}
use Rattle.mcv_core.specs.Rows.{awaiting_state, row_by, state_of}
use Rattle.mcv_core.specs.Settling.{settled_row}
use Rattle.mcv_core.specs.View.{core_view}
use Rattle.mcv_core.specs.declared.settle.Settling.TheVariants as kinds
use Rattle.mcv_core.specs.declared.step.Change.TheVariants as changes
use Rattle.mcv_core.specs.declared.step.LegState.TheVariants as leg_states
use Rattle.mcv_core.proofs.Landings
use Rattle.mcv_core.proofs.LegViews
use Rattle.mcv_core.proofs.dispatcher.Dispatcher.finish.Goals as goal

pub settle-requires : goal.settle-requires
settle-requires c =
    let d = c.args.self.now in
    let l = Landings.seen (legs d.queues c.args.leg.0) c.args.facts c.requires.at in
    let sent : l.leg.state ≡ states.Sent = ap (λ f. f.state) l.is ∙ c.requires.sent in
    record {
      owner = c.owner.ensures.owner (legs d.queues c.args.leg.0) c.requires.at;
      can = Landings.can_settle d c.args.leg.0 l.leg l.at kinds.Gone (ap (λ t. is_unanswered (awaiting_state t)) sent) (ap is_flight sent) (ap (λ t. count_in (state_of t)) sent) (λ e. absurd (true≢false e));
      sent = λ _. subst (λ s. IsSentTo s.0 (legs d.queues c.args.leg.0)) (sym c.owner.ensures.server) (Landings.sent_of_seen (legs d.queues c.args.leg.0) c.args.facts c.requires.at c.requires.sent);
      one = c.requires.one;
    }

pub returns : goal.returns
returns c =
    let d = c.args.self.now in
    let n = c.args.leg.0 in
    let l = Landings.seen (legs d.queues n) c.args.facts c.requires.at in
    let y = part_value c.args.counted.outcome in
    let state : c.after-state.result ≡ state_after (row_by state_of l.leg) y =
    c.after-state.ensures ∙ ap (λ b. cond (is_delete c.args.facts.op && not b) leg_states.Performed leg_states.Gone) c.is_error.ensures
    ∙ ap (λ o. cond (is_delete o && not (is_error_reply y)) leg_states.Performed leg_states.Gone) (sym (ap (λ f. f.op) l.is)) in
    subst (λ o. HasDone (at_row (finished (core_view d) n y) o) (core_view c.settle.new.self) (step_to c.after-state.result changes.Answered)) (sym (LegViews.there d n l.leg l.at))
    (ap (λ p. step_to p changes.Answered) state, c.settle.ensures ∙ ap (settled_row (core_view d) n kinds.Gone y) (LegViews.there d n l.leg l.at))
