use Rattle.std.proofs.Common.{◌≡◌, None, refl, subst, vec_len, vec_capacity}
use Rattle.mcv_core.specs.Events.{IsEvent, IsNext}
use Rattle.mcv_core.specs.View.{core_view}
use Rattle.mcv_hub.proofs.EventsMayWrite.{next_goes}
use Rattle.mcv_hub.proofs.Histories.{goes_holds, hub_event, next_none, none_begins, none_longer, none_takes, none_writes}
use Rattle.mcv_hub.proofs.state.HubState.next.Goals as goal

pub invariant_of-self : goal.invariant_of-self
invariant_of-self g c =
    let h : IsEvent (IsNext (core_view c.self.inside.core.dispatcher) c.args.server c.next.result) (core_view c.next.new.self) = subst (λ d. IsEvent (IsNext (core_view d) c.args.server c.next.result) (core_view c.next.new.self)) c.events.ensures.value c.next.ensures in
    let none : h.move ≡ None = next_none (core_view c.self.inside.core.dispatcher) c.args.server c.next.result h.move (core_view c.next.new.self) h.event in
    let goes = next_goes c.self.inside.core.dispatcher (core_view c.next.new.self) c.args.server c.next.result h.move h.event in (
      goes_holds (core_view c.self.inside.core.dispatcher) (core_view c.next.new.self) c.self.inside.history.entries.items c.self.inside.chapter c.self.inside.begun.total c.self.inside.taken.total c.self.inside.begun_before c.self.inside.taken_before (vec_len c.self.inside.history.entries) (vec_capacity c.self.inside.history.entries) c.self.inside.places c.self.inside.breaks c.self.invariant.0 h.move goes c.self.inside.history.entries.items c.self.inside.begun.total c.self.inside.taken.total (vec_len c.self.inside.history.entries) (vec_capacity c.self.inside.history.entries) (none_writes (core_view c.self.inside.core.dispatcher).routes c.self.inside.history.entries.items c.self.inside.history.entries.items h.move none refl) (none_begins _ h.move none) (none_takes _ h.move none)
          (none_longer _ h.move none) refl,
      c.self.invariant.1,
    )

pub returns : goal.returns
returns g c =
    let h : IsEvent (IsNext (core_view c.self.inside.core.dispatcher) c.args.server c.next.result) (core_view c.next.new.self) = subst (λ d. IsEvent (IsNext (core_view d) c.args.server c.next.result) (core_view c.next.new.self)) c.events.ensures.value c.next.ensures in
    let none : h.move ≡ None = next_none (core_view c.self.inside.core.dispatcher) c.args.server c.next.result h.move (core_view c.next.new.self) h.event in
    let goes = next_goes c.self.inside.core.dispatcher (core_view c.next.new.self) c.args.server c.next.result h.move h.event in
    rw (← c.self.view_is) (hub_event _ _ _ h.move h.event goes.leads (none_writes (core_view c.self.inside.core.dispatcher).routes c.self.inside.history.entries.items c.self.inside.history.entries.items h.move none refl) (none_begins _ h.move none) (none_takes _ h.move none) (record { hub = refl; chapter = refl; entries_before = refl; begun_before = refl; taken_before = refl }))
