use Rattle.std.proofs.Common.{◌≡◌, Ok, Err, Some, None, Option, length, ap, refl, rules, subst, arith, vec_len, vec_capacity}
use Rattle.std.proofs.lemmas.Result.{err_from_is_err_and}
use Rattle.mcv_base.specs.Reply.{part_value}
use Rattle.mcv_base.specs.declared.reply.Part.{Part}
use Rattle.mcv_events.specs.Rows.{world_of}
use Rattle.mcv_world.specs.Moves.{Taken as taken_move}
use Rattle.mcv_core.specs.Events.{IsEvent, IsTaken}
use Rattle.mcv_core.specs.View.{core_view}
use Rattle.mcv_hub.specs.History.{written}
use Rattle.mcv_hub.specs.declared.entry.Entry.TheVariants.{Taken}
use Rattle.mcv_hub.proofs.EventsMayWrite.{take_goes}
use Rattle.mcv_hub.proofs.Histories.{goes_holds, hub_event, none_begins, none_longer, none_takes, none_writes, one_writes, reply_of_world, taken_begins, taken_longer, taken_takes, uncalled_event, untaken_none}
use Rattle.mcv_hub.proofs.state.HubState.take_reply.Goals as goal

-- no such call runs
pub returns-in_err-asked-clause-event : goal.returns-in_err-asked-clause-event
returns-in_err-asked-clause-event g c =
    let v = c.args.self.now in
    let p = err_from_is_err_and c.from_residual.result c.from_residual.ensures.1 in
    rw (p.1, p.2) (uncalled_event v v c.args.call c.in_err-asked.field-0.0 c.in_err-asked.ensures.err.0 c.in_err-asked.ensures.err.1 refl refl refl refl (record { hub = refl; chapter = refl; entries_before = refl; begun_before = refl; taken_before = refl }))

-- the core says so
pub invariant_of-self : goal.invariant_of-self
invariant_of-self g c =
    let s = c.self.inside in
    let d = s.core.dispatcher in
    let w = core_view c.take.new.self in
    let fault = c.in_err-found.field-0.0 in
    let h : IsEvent (IsTaken (core_view d) c.args.call (Err fault)) w = subst (λ d. IsEvent (IsTaken (core_view d) c.args.call (Err fault)) w) c.events.ensures.value c.in_err-found.ensures in
    let goes = take_goes d w c.args.call (Err fault) h.move h.event in (
      goes_holds (core_view d) w s.history.entries.items s.chapter s.begun.total s.taken.total s.begun_before s.taken_before (vec_len s.history.entries) (vec_capacity s.history.entries) s.places s.breaks c.self.invariant.0 h.move goes s.history.entries.items s.begun.total s.taken.total
          (vec_len s.history.entries) (vec_capacity s.history.entries) (none_writes (core_view c.self.inside.core.dispatcher).routes c.self.inside.history.entries.items c.self.inside.history.entries.items h.move h.event.none refl) (none_begins _ h.move h.event.none) (none_takes _ h.move h.event.none) (none_longer _ h.move h.event.none) refl,
      c.self.invariant.1,
    )

pub returns-in_err-found-clause-event : goal.returns-in_err-found-clause-event
returns-in_err-found-clause-event g c =
    let d = c.self.inside.core.dispatcher in
    let w = core_view c.take.new.self in
    let fault = c.in_err-found.field-0.0 in
    let p = err_from_is_err_and c.from_residual-in_err-found.result c.from_residual-in_err-found.ensures.1 in
    let h : IsEvent (IsTaken (core_view d) c.args.call (Err fault)) w = subst (λ d. IsEvent (IsTaken (core_view d) c.args.call (Err fault)) w) c.events.ensures.value c.in_err-found.ensures in
    let goes = take_goes d w c.args.call (Err fault) h.move h.event in
    rw (p.1, p.2)
    (rw (← c.self.view_is)
    (hub_event _ _ _ h.move h.event goes.leads (none_writes (core_view c.self.inside.core.dispatcher).routes c.self.inside.history.entries.items c.self.inside.history.entries.items h.move h.event.none refl) (none_begins _ h.move h.event.none) (none_takes _ h.move h.event.none) (record { hub = refl; chapter = refl; entries_before = refl; begun_before = refl; taken_before = refl })))

-- it has no reply, or it was taken
pub invariant_of-self-in_default : goal.invariant_of-self-in_default
invariant_of-self-in_default g c =
    let s = c.self.inside in
    let d = s.core.dispatcher in
    let w = core_view c.take.new.self in
    let is : c.in_ok-found.found ≡ None = c.in_default.is in
    let h : IsEvent (IsTaken (core_view d) c.args.call (Ok None)) w = subst (λ (o : Option Part). IsEvent (IsTaken (core_view d) c.args.call (Ok o)) w) is (subst (λ d. IsEvent (IsTaken (core_view d) c.args.call (Ok c.in_ok-found.found)) w) c.events.ensures.value c.in_ok-found.ensures) in
    let none = untaken_none (core_view d) c.args.call h.move w h.event in
    let goes = take_goes d w c.args.call (Ok None) h.move h.event in (
      goes_holds (core_view d) w s.history.entries.items s.chapter s.begun.total s.taken.total s.begun_before s.taken_before (vec_len s.history.entries) (vec_capacity s.history.entries) s.places s.breaks c.self.invariant.0 h.move goes s.history.entries.items s.begun.total s.taken.total
          (vec_len s.history.entries) (vec_capacity s.history.entries) (none_writes (core_view c.self.inside.core.dispatcher).routes c.self.inside.history.entries.items c.self.inside.history.entries.items h.move none refl) (none_begins _ h.move none) (none_takes _ h.move none) (none_longer _ h.move none) refl,
      c.self.invariant.1,
    )

pub returns-in_default-clause-event : goal.returns-in_default-clause-event
returns-in_default-clause-event g c =
    let d = c.self.inside.core.dispatcher in
    let w = core_view c.take.new.self in
    let is : c.in_ok-found.found ≡ None = c.in_default.is in
    let h : IsEvent (IsTaken (core_view d) c.args.call (Ok None)) w = subst (λ (o : Option Part). IsEvent (IsTaken (core_view d) c.args.call (Ok o)) w) is (subst (λ d. IsEvent (IsTaken (core_view d) c.args.call (Ok c.in_ok-found.found)) w) c.events.ensures.value c.in_ok-found.ensures) in
    let none = untaken_none (core_view d) c.args.call h.move w h.event in
    let goes = take_goes d w c.args.call (Ok None) h.move h.event in
    rw (← c.self.view_is)
    (hub_event _ _ _ h.move h.event goes.leads (none_writes (core_view c.self.inside.core.dispatcher).routes c.self.inside.history.entries.items c.self.inside.history.entries.items h.move none refl) (none_begins _ h.move none) (none_takes _ h.move none) (record { hub = refl; chapter = refl; entries_before = refl; begun_before = refl; taken_before = refl }))

-- its entry has its place
pub push-requires : goal.push-requires
push-requires g c =
    let d = c.self.inside.core.dispatcher in
    let w = core_view c.take.new.self in
    let h : IsEvent (IsTaken (core_view d) c.args.call (Ok (Some c.in-Some.reply))) w = subst (λ o. IsEvent (IsTaken (core_view d) c.args.call (Ok o)) w) c.in-Some.is (subst (λ d. IsEvent (IsTaken (core_view d) c.args.call (Ok c.in_ok-found.found)) w) c.events.ensures.value c.in_ok-found.ensures) in
    let spent = (take_goes d w c.args.call (Ok (Some c.in-Some.reply)) h.move h.event).spent in
    let one = ap written h.event.move in
    let within = c.self.invariant.0.1.within in
    let kept = c.self.invariant.0.1.kept in
    omega (arith, spent, one, within, kept)

pub invariant_of-self-2 : goal.invariant_of-self-2
invariant_of-self-2 g c =
    let s = c.self.inside in
    let d = s.core.dispatcher in
    let w = core_view c.take.new.self in
    let h : IsEvent (IsTaken (core_view d) c.args.call (Ok (Some c.in-Some.reply))) w = subst (λ o. IsEvent (IsTaken (core_view d) c.args.call (Ok o)) w) c.in-Some.is (subst (λ d. IsEvent (IsTaken (core_view d) c.args.call (Ok c.in_ok-found.found)) w) c.events.ensures.value c.in_ok-found.ensures) in
    let goes = take_goes d w c.args.call (Ok (Some c.in-Some.reply)) h.move h.event in (
      goes_holds (core_view d) w s.history.entries.items s.chapter s.begun.total s.taken.total s.begun_before s.taken_before (vec_len s.history.entries) (vec_capacity s.history.entries) s.places s.breaks c.self.invariant.0 h.move goes c.push.new.self.entries.items _ _ _ _
          (one_writes (core_view c.self.inside.core.dispatcher).routes c.self.inside.history.entries.items c.push.new.self.entries.items (Taken c.args.call) h.move (taken_move c.args.call.0) h.event.move refl c.push.ensures.items) (taken_begins h.move c.args.call.0 _ h.event.move) (taken_takes h.move c.args.call.0 _ _ h.event.move c.add.ensures.total)
          (taken_longer h.move c.args.call.0 _ _ h.event.move c.push.ensures.len) c.push.ensures.capacity,
      c.self.invariant.1,
    )

pub returns-clause-event : goal.returns-clause-event
returns-clause-event g c =
    let s = c.self.inside in
    let d = s.core.dispatcher in
    let w = core_view c.take.new.self in
    let h : IsEvent (IsTaken (core_view d) c.args.call (Ok (Some c.in-Some.reply))) w = subst (λ o. IsEvent (IsTaken (core_view d) c.args.call (Ok o)) w) c.in-Some.is (subst (λ d. IsEvent (IsTaken (core_view d) c.args.call (Ok c.in_ok-found.found)) w) c.events.ensures.value c.in_ok-found.ensures) in
    let goes = take_goes d w c.args.call (Ok (Some c.in-Some.reply)) h.move h.event in
    rw (← c.self.view_is)
    (hub_event _ _ _ h.move h.event goes.leads (one_writes (core_view c.self.inside.core.dispatcher).routes c.self.inside.history.entries.items c.push.new.self.entries.items (Taken c.args.call) h.move (taken_move c.args.call.0) h.event.move refl c.push.ensures.items) (taken_begins h.move c.args.call.0 _ h.event.move)
    (taken_takes h.move c.args.call.0 _ _ h.event.move c.add.ensures.total) (record { hub = refl; chapter = refl; entries_before = refl; begun_before = refl; taken_before = refl }))

pub returns-clause-receipt : goal.returns-clause-receipt
returns-clause-receipt g c =
    let d = c.self.inside.core.dispatcher in
    let w = core_view c.take.new.self in
    let h : IsEvent (IsTaken (core_view d) c.args.call (Ok (Some c.in-Some.reply))) w = subst (λ o. IsEvent (IsTaken (core_view d) c.args.call (Ok o)) w) c.in-Some.is (subst (λ d. IsEvent (IsTaken (core_view d) c.args.call (Ok c.in_ok-found.found)) w) c.events.ensures.value c.in_ok-found.ensures) in
    let entry : c.len.result ≡ length c.self.inside.history.entries.items = search rules in
    record {
      hub = rw (← c.self.view_is) refl;
      chapter = rw (← c.self.view_is) refl;
      entry = rw (← c.self.view_is) entry;
      call_is = refl;
      asked = c.in_ok-asked.ensures.ok;
      reply = λ world is left. reply_of_world (core_view c.args.self.now.core).routes (world_of (core_view c.args.self.now.core).rows) world c.args.call.0 (part_value c.in-Some.reply) left (rw (← c.self.view_is) h.event.reply);
    }
