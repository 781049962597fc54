use Rattle.std.proofs.Common.{◌≡◌, ◌+◌, ◌≤◌, arith, refl, subst, sym, vec_len, vec_capacity}
use Rattle.mcv_core.specs.Events.{IsClocked, IsEvent}
use Rattle.mcv_core.specs.View.{core_view}
use Rattle.mcv_hub.specs.History.{entries_in, written}
use Rattle.mcv_hub.specs.RemainingEntries.{may_write}
use Rattle.mcv_hub.proofs.EventsMayWrite.{clock_goes}
use Rattle.mcv_hub.proofs.Histories.{clock_move, era_begins, era_longer, era_takes, era_writes, goes_holds, hub_event, write_fits}
use Rattle.mcv_hub.proofs.state.HubState.clock.Goals as goal

pub write-requires : goal.write-requires
write-requires g c =
    let h : IsEvent (IsClocked (core_view c.self.inside.core.dispatcher) c.args.moment c.clock-answer.result) (core_view c.clock-answer.new.self) = subst (λ d. IsEvent (IsClocked (core_view d) c.args.moment c.clock-answer.result) (core_view c.clock-answer.new.self)) c.events.ensures.value c.clock-answer.ensures in
    let goes = clock_goes c.self.inside.core.dispatcher (core_view c.clock-answer.new.self) c.args.moment c.clock-answer.result h.move h.event in
    let is = clock_move (core_view c.self.inside.core.dispatcher) c.args.moment c.clock-answer.result h.move (core_view c.clock-answer.new.self) h.event in
    let longer : entries_in c.era_entry.result ≡ written h.move = let k = era_longer c.clock-answer.result h.move is 0 (entries_in c.era_entry.result) c.era_entry.result c.era_entry.ensures (omega arith) in omega (arith, k) in
    subst (λ n. vec_len c.self.inside.history.entries + n ≤ vec_capacity c.self.inside.history.entries) (sym longer) (write_fits (vec_len c.self.inside.history.entries) (vec_capacity c.self.inside.history.entries) c.self.inside.places (may_write (core_view c.self.inside.core.dispatcher)) (may_write (core_view c.clock-answer.new.self)) (written h.move) c.self.invariant.0.1 goes.spent)

pub invariant_of-self : goal.invariant_of-self
invariant_of-self g c =
    let h : IsEvent (IsClocked (core_view c.self.inside.core.dispatcher) c.args.moment c.clock-answer.result) (core_view c.clock-answer.new.self) = subst (λ d. IsEvent (IsClocked (core_view d) c.args.moment c.clock-answer.result) (core_view c.clock-answer.new.self)) c.events.ensures.value c.clock-answer.ensures in
    let goes = clock_goes c.self.inside.core.dispatcher (core_view c.clock-answer.new.self) c.args.moment c.clock-answer.result h.move h.event in
    let is = clock_move (core_view c.self.inside.core.dispatcher) c.args.moment c.clock-answer.result h.move (core_view c.clock-answer.new.self) h.event in (
      goes_holds (core_view c.self.inside.core.dispatcher) (core_view c.clock-answer.new.self) c.self.inside.history.entries.items c.self.inside.chapter c.self.inside.begun.total c.self.inside.taken.total c.self.inside.begun_before c.self.inside.taken_before (vec_len c.self.inside.history.entries) (vec_capacity c.self.inside.history.entries) c.self.inside.places c.self.inside.breaks c.self.invariant.0 h.move goes c.write.new.history.entries.items c.self.inside.begun.total c.self.inside.taken.total (vec_len c.write.new.history.entries) (vec_capacity c.write.new.history.entries) (era_writes c.clock-answer.result h.move is (core_view c.self.inside.core.dispatcher).routes c.self.inside.history.entries.items c.write.new.history.entries.items c.era_entry.result c.era_entry.ensures c.write.ensures.items) (era_begins c.clock-answer.result h.move is _) (era_takes c.clock-answer.result h.move is _)
          (era_longer c.clock-answer.result h.move is _ _ c.era_entry.result c.era_entry.ensures c.write.ensures.len) c.write.ensures.capacity,
      c.self.invariant.1,
    )

pub returns : goal.returns
returns g c =
    let h : IsEvent (IsClocked (core_view c.self.inside.core.dispatcher) c.args.moment c.clock-answer.result) (core_view c.clock-answer.new.self) = subst (λ d. IsEvent (IsClocked (core_view d) c.args.moment c.clock-answer.result) (core_view c.clock-answer.new.self)) c.events.ensures.value c.clock-answer.ensures in
    let goes = clock_goes c.self.inside.core.dispatcher (core_view c.clock-answer.new.self) c.args.moment c.clock-answer.result h.move h.event in
    let is = clock_move (core_view c.self.inside.core.dispatcher) c.args.moment c.clock-answer.result h.move (core_view c.clock-answer.new.self) h.event in
    rw (← c.self.view_is) (hub_event _ _ _ h.move h.event goes.leads (era_writes c.clock-answer.result h.move is (core_view c.self.inside.core.dispatcher).routes c.self.inside.history.entries.items c.write.new.history.entries.items c.era_entry.result c.era_entry.ensures c.write.ensures.items) (era_begins c.clock-answer.result h.move is _) (era_takes c.clock-answer.result h.move is _) (record { hub = refl; chapter = refl; entries_before = refl; begun_before = refl; taken_before = refl }))
