use Rattle.std.proofs.Common.{◌∙◌, ◌++◌, [], ◌∷◌, Ok, ap, refl, subst, sym, arith, vec_len, vec_capacity}
use Rattle.std.proofs.lemmas.Result.{err_from_is_err_and}
use Rattle.std.specs.Arc.{arc_value}
use Rattle.mcv_pools.specs.Hash.{fnv_index}
use Rattle.mcv_core.specs.Asking.{IsUnbegun}
use Rattle.mcv_core.specs.Events.{IsBegun, IsEvent}
use Rattle.mcv_core.specs.View.{core_view}
use Rattle.mcv_core.specs.declared.fault.CoreFault.{CoreFault}
use Rattle.mcv_core.specs.declared.fault.CoreFault.TheVariants.{Memory}
use Rattle.mcv_hub.proofs.EventsMayWrite.{begun_goes}
use Rattle.mcv_hub.proofs.Histories.{begin_holds, begun_begins, begun_longer, begun_takes, begun_writes, hub_event, refused_holds, unbegun_event}
use Rattle.mcv_hub.specs.History.{written}
use Rattle.mcv_hub.specs.State.{HubView}
use Rattle.mcv_hub.specs.declared.entry.Entry.TheVariants.{Began}
use Rattle.mcv_hub.proofs.state.HubState.begin_call.Goals as goal

-- the history gets no room
pub returns-in_err-make_room-clause-event : goal.returns-in_err-make_room-clause-event
returns-in_err-make_room-clause-event g c =
    let v = c.args.self.now in
    let new : HubView = record { core = c.self.inside.core.dispatcher; history = c.make_room.new.history.entries.items; hub = c.self.inside.hub; chapter = c.self.inside.chapter; entries_before = c.self.inside.entries_before; begun = c.self.inside.begun.total; taken = c.self.inside.taken.total; begun_before = c.self.inside.begun_before; taken_before = c.self.inside.taken_before } in
    let is = c.self.view_is in
    let p = err_from_is_err_and c.from_residual.result c.from_residual.ensures.1 in
    rw (p.1, p.2)
    (unbegun_event v new (arc_value c.args.request) c.args.key c.in_err-make_room.field-0.0 (subst (λ (f : CoreFault). IsUnbegun (core_view v.core) fnv_index (arc_value c.args.request) c.args.key f) (sym c.in_err-make_room.ensures.err) tt)
    (ap (λ (z : HubView). core_view z.core) is) (c.make_room.ensures.items ∙ ap (λ (z : HubView). z.history) is) (ap (λ (z : HubView). z.begun) is) (ap (λ (z : HubView). z.taken) is)
    (record { hub = ap (λ (z : HubView). z.hub) is; chapter = ap (λ (z : HubView). z.chapter) is; entries_before = ap (λ (z : HubView). z.entries_before) is; begun_before = ap (λ (z : HubView). z.begun_before) is; taken_before = ap (λ (z : HubView). z.taken_before) is }))

-- the request can't be shared
pub returns-in_default-clause-event : goal.returns-in_default-clause-event
returns-in_default-clause-event g c =
    let new : HubView = record { core = c.self.inside.core.dispatcher; history = c.make_room.new.history.entries.items; hub = c.self.inside.hub; chapter = c.self.inside.chapter; entries_before = c.self.inside.entries_before; begun = c.self.inside.begun.total; taken = c.self.inside.taken.total; begun_before = c.self.inside.begun_before; taken_before = c.self.inside.taken_before } in
    let is = c.self.view_is in
    unbegun_event c.args.self.now new (arc_value c.args.request) c.args.key Memory tt (ap (λ (z : HubView). core_view z.core) is) (c.make_room.ensures.items ∙ ap (λ (z : HubView). z.history) is) (ap (λ (z : HubView). z.begun) is) (ap (λ (z : HubView). z.taken) is)
    (record { hub = ap (λ (z : HubView). z.hub) is; chapter = ap (λ (z : HubView). z.chapter) is; entries_before = ap (λ (z : HubView). z.entries_before) is; begun_before = ap (λ (z : HubView). z.begun_before) is; taken_before = ap (λ (z : HubView). z.taken_before) is })

-- the core refuses
pub invariant_of-self-in_err-call : goal.invariant_of-self-in_err-call
invariant_of-self-in_err-call g c =
    let s = c.self.inside in
    let h = c.in_err-call.ensures.begun in (
      refused_holds (core_view s.core.dispatcher) (core_view c.begin.new.self.dispatcher) s.history.entries.items s.chapter s.begun.total s.taken.total s.begun_before s.taken_before (vec_len s.history.entries) (vec_capacity s.history.entries) s.places s.breaks c.self.invariant.0
          h.event.same c.make_room.new.history.entries.items (vec_len c.make_room.new.history.entries) (vec_capacity c.make_room.new.history.entries) c.make_room.ensures.items c.make_room.ensures.len c.make_room.ensures.grown,
      c.self.invariant.1,
    )

pub returns-in_err-call-clause-event : goal.returns-in_err-call-clause-event
returns-in_err-call-clause-event g c =
    let v = c.args.self.now in
    let new : HubView = record { core = c.begin.new.self.dispatcher; history = c.make_room.new.history.entries.items; hub = c.self.inside.hub; chapter = c.self.inside.chapter; entries_before = c.self.inside.entries_before; begun = c.self.inside.begun.total; taken = c.self.inside.taken.total; begun_before = c.self.inside.begun_before; taken_before = c.self.inside.taken_before } in
    let is = c.self.view_is in
    let h = c.in_err-call.ensures.begun in
    let p = err_from_is_err_and c.from_residual-in_err-call.result c.from_residual-in_err-call.ensures.1 in
    rw (p.1, p.2)
    (unbegun_event v new (arc_value c.args.request) c.args.key c.in_err-call.field-0.0 (subst (λ (z : HubView). IsUnbegun (core_view z.core) fnv_index (arc_value c.args.request) c.args.key c.in_err-call.field-0.0) is h.event.cause)
    (h.event.same ∙ ap (λ (z : HubView). core_view z.core) is) (c.make_room.ensures.items ∙ ap (λ (z : HubView). z.history) is) (ap (λ (z : HubView). z.begun) is) (ap (λ (z : HubView). z.taken) is)
    (record { hub = ap (λ (z : HubView). z.hub) is; chapter = ap (λ (z : HubView). z.chapter) is; entries_before = ap (λ (z : HubView). z.entries_before) is; begun_before = ap (λ (z : HubView). z.begun_before) is; taken_before = ap (λ (z : HubView). z.taken_before) is }))

-- its entry has its place
pub push-requires : goal.push-requires
push-requires g c =
    let s = c.self.inside in
    let d = s.core.dispatcher in
    let w = core_view c.begin.new.self.dispatcher in
    let h : IsEvent (IsBegun (core_view d) fnv_index (arc_value c.args.request) c.args.key (Ok c.in_ok-call.call)) w = c.in_ok-call.ensures.begun in
    let goes = begun_goes d w fnv_index (arc_value c.args.request) c.args.key c.in_ok-call.call h.move h.event in
    let before = c.entries-entries.ensures ∙ ap (λ d. (core_view d).entries) c.state.ensures in
    let left = c.saturating_sub-left.ensures in
    let limit = goes.limit in
    let spent = goes.spent in
    let one = ap written h.event.move in
    let room = c.in_ok-make_room.ensures.room in
    let len = c.make_room.ensures.len in
    let fits = c.self.invariant.0.1.within in
    omega (arith, before, left, limit, spent, one, room, len, fits)

-- it reserves no fewer entries than there were
pub overflow_sub-reserved : goal.overflow_sub-reserved
overflow_sub-reserved g c =
    let d = c.self.inside.core.dispatcher in
    let w = core_view c.begin.new.self.dispatcher in
    let h : IsEvent (IsBegun (core_view d) fnv_index (arc_value c.args.request) c.args.key (Ok c.in_ok-call.call)) w = c.in_ok-call.ensures.begun in
    let within = (begun_goes d w fnv_index (arc_value c.args.request) c.args.key c.in_ok-call.call h.move h.event).within in
    let before = c.entries-entries.ensures ∙ ap (λ d. (core_view d).entries) c.state.ensures in
    let after = c.entries.ensures ∙ ap (λ d. (core_view d).entries) c.state-2.ensures in
    omega (arith, within, before, after)

pub overflow_add-self : goal.overflow_add-self
overflow_add-self g c =
    let d = c.self.inside.core.dispatcher in
    let w = core_view c.begin.new.self.dispatcher in
    let h : IsEvent (IsBegun (core_view d) fnv_index (arc_value c.args.request) c.args.key (Ok c.in_ok-call.call)) w = c.in_ok-call.ensures.begun in
    let limit = (begun_goes d w fnv_index (arc_value c.args.request) c.args.key c.in_ok-call.call h.move h.event).limit in
    let before = c.entries-entries.ensures ∙ ap (λ d. (core_view d).entries) c.state.ensures in
    let after = c.entries.ensures ∙ ap (λ d. (core_view d).entries) c.state-2.ensures in
    let left = c.saturating_sub-left.ensures in
    let small = c.in_ok-make_room.ensures.small in
    omega (arith, limit, before, after, left, small)

pub invariant_of-self-2 : goal.invariant_of-self-2
invariant_of-self-2 g c =
    let s = c.self.inside in
    let d = s.core.dispatcher in
    let w = core_view c.begin.new.self.dispatcher in
    let h : IsEvent (IsBegun (core_view d) fnv_index (arc_value c.args.request) c.args.key (Ok c.in_ok-call.call)) w = c.in_ok-call.ensures.begun in
    let goes = begun_goes d w fnv_index (arc_value c.args.request) c.args.key c.in_ok-call.call h.move h.event in
    let before = c.entries-entries.ensures ∙ ap (λ d. (core_view d).entries) c.state.ensures in
    let after = c.entries.ensures ∙ ap (λ d. (core_view d).entries) c.state-2.ensures in
    let left = c.saturating_sub-left.ensures in
    let within = goes.within in
    let limit = goes.limit in
    let room = c.in_ok-make_room.ensures.room in
    let small = c.in_ok-make_room.ensures.small in
    let capacity = c.push.ensures.capacity in
    let items = c.push.ensures.items ∙ ap (λ z. z ++ Began c.in-Ok.shared c.args.key ∷ []) c.make_room.ensures.items in
    let len = c.push.ensures.len in
    let kept = c.make_room.ensures.len in (
      begin_holds (core_view d) w s.history.entries.items s.chapter s.begun.total s.taken.total s.begun_before s.taken_before (vec_len s.history.entries) (vec_capacity s.history.entries) s.places s.breaks c.self.invariant.0 h.move goes c.push.new.self.entries.items _ _ _ _ _
          (begun_writes (core_view d) c.args.request c.in-Ok.shared c.args.key c.in_ok-call.call h.move w c.self.inside.history.entries.items c.push.new.self.entries.items c.in-Ok.ensures h.event items) (begun_begins (core_view d) fnv_index (arc_value c.args.request) c.args.key c.in_ok-call.call h.move w _ _ h.event c.add.ensures.total)
          (begun_takes (core_view d) fnv_index (arc_value c.args.request) c.args.key c.in_ok-call.call h.move w _ h.event) (begun_longer (core_view d) fnv_index (arc_value c.args.request) c.args.key c.in_ok-call.call h.move w _ _ h.event (omega (arith, len, kept)))
          (omega (arith, before, after, left, within, limit, room, capacity)) (omega (arith, before, after, left, within, limit, small)) (omega (arith, before, after, within)),
      c.self.invariant.1,
    )

pub returns-clause-event : goal.returns-clause-event
returns-clause-event g c =
    let s = c.self.inside in
    let d = s.core.dispatcher in
    let w = core_view c.begin.new.self.dispatcher in
    let h : IsEvent (IsBegun (core_view d) fnv_index (arc_value c.args.request) c.args.key (Ok c.in_ok-call.call)) w = c.in_ok-call.ensures.begun in
    let goes = begun_goes d w fnv_index (arc_value c.args.request) c.args.key c.in_ok-call.call h.move h.event in
    let items = c.push.ensures.items ∙ ap (λ z. z ++ Began c.in-Ok.shared c.args.key ∷ []) c.make_room.ensures.items in
    rw (← c.self.view_is)
    (hub_event _ _ _ h.move h.event goes.leads (begun_writes (core_view d) c.args.request c.in-Ok.shared c.args.key c.in_ok-call.call h.move w c.self.inside.history.entries.items c.push.new.self.entries.items c.in-Ok.ensures h.event items)
    (begun_begins (core_view d) fnv_index (arc_value c.args.request) c.args.key c.in_ok-call.call h.move w _ _ h.event c.add.ensures.total) (begun_takes (core_view d) fnv_index (arc_value c.args.request) c.args.key c.in_ok-call.call h.move w _ h.event)
    (record { hub = refl; chapter = refl; entries_before = refl; begun_before = refl; taken_before = refl }))

pub returns-clause-entry : goal.returns-clause-entry
returns-clause-entry g c =
    rw (← c.self.view_is) (record { shared = c.in-Ok.shared; same = c.in-Ok.ensures; entry = c.push.ensures.items ∙ ap (λ z. z ++ Began c.in-Ok.shared c.args.key ∷ []) c.make_room.ensures.items })
