use Rattle.std.proofs.Common.{◌≡◌, ◌∙◌, ◌+◌, ◌≤◌, ap, arith, refl, subst, sym, vec_len, vec_capacity}
use Rattle.mcv_base.specs.Reply.{fixed_value}
use Rattle.mcv_base.specs.declared.reply.FixedReply.TheVariants as replies
use Rattle.mcv_base.specs.declared.reply.Part.TheVariants as parts
use Rattle.mcv_core.specs.Events.{IsEvent, IsLostTooLeg}
use Rattle.mcv_core.specs.View.{core_view}
use Rattle.mcv_hub.specs.History.{answer_change, entries_in, leg_entry, written}
use Rattle.mcv_hub.specs.RemainingEntries.{may_write}
use Rattle.mcv_hub.proofs.EventsMayWrite.{lost_too_goes}
use Rattle.mcv_hub.proofs.Histories.{goes_holds, hub_event, leg_begins, leg_longer, leg_takes, leg_writes, write_fits}
use Rattle.mcv_hub.proofs.state.HubState.lost_too.Goals as goal

pub write-requires : goal.write-requires
write-requires g c =
    let h : IsEvent (IsLostTooLeg (core_view c.self.inside.core.dispatcher) c.args.leg c.lost_too-answer.result) (core_view c.lost_too-answer.new.self) = subst (λ d. IsEvent (IsLostTooLeg (core_view d) c.args.leg c.lost_too-answer.result) (core_view c.lost_too-answer.new.self)) c.events.ensures.value c.lost_too-answer.ensures in
    let goes = lost_too_goes c.self.inside.core.dispatcher (core_view c.lost_too-answer.new.self) c.args.leg c.lost_too-answer.result h.move h.event in
    let entry : c.leg_entry.result ≡ leg_entry c.args.leg (parts.Fixed replies.Lost) (answer_change c.lost_too-answer.result) = c.leg_entry.ensures ∙ ap (leg_entry c.args.leg (parts.Fixed replies.Lost)) c.change_of.ensures in
    let longer : entries_in c.leg_entry.result ≡ written h.move = let k = leg_longer c.args.leg (parts.Fixed replies.Lost) (fixed_value replies.Lost) c.lost_too-answer.result h.move h.event.move 0 (entries_in c.leg_entry.result) c.leg_entry.result entry (omega arith) in omega (arith, k) in
    subst (λ n. vec_len c.self.inside.history.entries + n ≤ vec_capacity c.self.inside.history.entries) (sym longer) (write_fits (vec_len c.self.inside.history.entries) (vec_capacity c.self.inside.history.entries) c.self.inside.places (may_write (core_view c.self.inside.core.dispatcher)) (may_write (core_view c.lost_too-answer.new.self)) (written h.move) c.self.invariant.0.1 goes.spent)

pub invariant_of-self : goal.invariant_of-self
invariant_of-self g c =
    let h : IsEvent (IsLostTooLeg (core_view c.self.inside.core.dispatcher) c.args.leg c.lost_too-answer.result) (core_view c.lost_too-answer.new.self) = subst (λ d. IsEvent (IsLostTooLeg (core_view d) c.args.leg c.lost_too-answer.result) (core_view c.lost_too-answer.new.self)) c.events.ensures.value c.lost_too-answer.ensures in
    let goes = lost_too_goes c.self.inside.core.dispatcher (core_view c.lost_too-answer.new.self) c.args.leg c.lost_too-answer.result h.move h.event in
    let entry : c.leg_entry.result ≡ leg_entry c.args.leg (parts.Fixed replies.Lost) (answer_change c.lost_too-answer.result) = c.leg_entry.ensures ∙ ap (leg_entry c.args.leg (parts.Fixed replies.Lost)) c.change_of.ensures in (
      goes_holds (core_view c.self.inside.core.dispatcher) (core_view c.lost_too-answer.new.self) c.self.inside.history.entries.items c.self.inside.chapter c.self.inside.begun.total c.self.inside.taken.total c.self.inside.begun_before c.self.inside.taken_before (vec_len c.self.inside.history.entries) (vec_capacity c.self.inside.history.entries) c.self.inside.places c.self.inside.breaks c.self.invariant.0 h.move goes c.write.new.history.entries.items c.self.inside.begun.total c.self.inside.taken.total (vec_len c.write.new.history.entries) (vec_capacity c.write.new.history.entries) (leg_writes c.args.leg (parts.Fixed replies.Lost) (fixed_value replies.Lost) c.lost_too-answer.result h.move h.event.move (core_view c.self.inside.core.dispatcher).routes c.self.inside.history.entries.items c.write.new.history.entries.items c.leg_entry.result refl entry c.write.ensures.items) (leg_begins c.args.leg (parts.Fixed replies.Lost) (fixed_value replies.Lost) c.lost_too-answer.result h.move h.event.move _) (leg_takes c.args.leg (parts.Fixed replies.Lost) (fixed_value replies.Lost) c.lost_too-answer.result h.move h.event.move _)
          (leg_longer c.args.leg (parts.Fixed replies.Lost) (fixed_value replies.Lost) c.lost_too-answer.result h.move h.event.move _ _ c.leg_entry.result entry c.write.ensures.len) c.write.ensures.capacity,
      c.self.invariant.1,
    )

pub returns : goal.returns
returns g c =
    let h : IsEvent (IsLostTooLeg (core_view c.self.inside.core.dispatcher) c.args.leg c.lost_too-answer.result) (core_view c.lost_too-answer.new.self) = subst (λ d. IsEvent (IsLostTooLeg (core_view d) c.args.leg c.lost_too-answer.result) (core_view c.lost_too-answer.new.self)) c.events.ensures.value c.lost_too-answer.ensures in
    let goes = lost_too_goes c.self.inside.core.dispatcher (core_view c.lost_too-answer.new.self) c.args.leg c.lost_too-answer.result h.move h.event in
    let entry : c.leg_entry.result ≡ leg_entry c.args.leg (parts.Fixed replies.Lost) (answer_change c.lost_too-answer.result) = c.leg_entry.ensures ∙ ap (leg_entry c.args.leg (parts.Fixed replies.Lost)) c.change_of.ensures in
    rw (← c.self.view_is) (hub_event _ _ _ h.move h.event goes.leads (leg_writes c.args.leg (parts.Fixed replies.Lost) (fixed_value replies.Lost) c.lost_too-answer.result h.move h.event.move (core_view c.self.inside.core.dispatcher).routes c.self.inside.history.entries.items c.write.new.history.entries.items c.leg_entry.result refl entry c.write.ensures.items) (leg_begins c.args.leg (parts.Fixed replies.Lost) (fixed_value replies.Lost) c.lost_too-answer.result h.move h.event.move _) (leg_takes c.args.leg (parts.Fixed replies.Lost) (fixed_value replies.Lost) c.lost_too-answer.result h.move h.event.move _) (record { hub = refl; chapter = refl; entries_before = refl; begun_before = refl; taken_before = refl }))
