use Rattle.std.proofs.Common.{◌<◌, ◌++◌, [], ◌∷◌, ◌∙◌, ap, arith, length, not, Some, true, false, refl}
use Rattle.std.proofs.lemmas.Result.{err_from_is_err_and}
use Rattle.mcv_spool.specs.File.{slots}
use Rattle.mcv_spool.specs.History.{SpoolCall, spool_state}
use Rattle.mcv_spool.proofs.SettledSpool.{counted_slots, settled_append}
use Rattle.mcv_spool.proofs.spool.Spool.append.Goals as goal

pub invariant_of-self-2 : goal.invariant_of-self-2
invariant_of-self-2 g c = record {
  settled = λ model ready.
      let known = (c.args.self.now.settled model c.if-self.false).found in
      let old = c.args.self.now.contents in
      settled_append (g.D.Disk.seen c.args.self.now.disk) (g.D.Disk.seen c.write_record.new.disk) (g.D.Disk.may_leave c.write_record.new.disk) old.pending.items c.args.delete known
      c.in_ok-write_record.ensures.reads (omega (arith, c.count-count.ensures.value, c.if-count-ge-SLOT_LIMIT.false)) (c.in_ok-write_record.ensures.slots model) (c.in_ok-write_record.ensures.closed model) (c.in_ok-write_record.ensures.durable model)
      c.add.new.self.pending.items (c.add.ensures ∙ (λ i. c.reserve.ensures.pending i ++ (c.in_ok-slot.ensures ∙ ap Some c.copied.ensures) i ∷ []));
}

pub returns-then-self-clause-step : goal.returns-then-self-clause-step
returns-then-self-clause-step g c = λ model. SpoolCall.nothing (spool_state c.args.self.now.disk c.args.self.now.needs_reopen)

pub returns-then-count-ge-SLOT_LIMIT-clause-step : goal.returns-then-count-ge-SLOT_LIMIT-clause-step
returns-then-count-ge-SLOT_LIMIT-clause-step g c = λ model. SpoolCall.nothing (spool_state c.args.self.now.disk c.args.self.now.needs_reopen)

pub returns-in_err-reserve-clause-step : goal.returns-in_err-reserve-clause-step
returns-in_err-reserve-clause-step g c =
    let gone = err_from_is_err_and c.from_residual.result c.from_residual.ensures.1 in
    rw (gone.1, gone.2) (λ model. SpoolCall.nothing (spool_state c.args.self.now.disk c.args.self.now.needs_reopen))

pub returns-in_err-slot-clause-step : goal.returns-in_err-slot-clause-step
returns-in_err-slot-clause-step g c =
    let gone = err_from_is_err_and c.from_residual-in_err-slot.result c.from_residual-in_err-slot.ensures.1 in
    rw (gone.1, gone.2) (λ model. SpoolCall.nothing (spool_state c.args.self.now.disk c.args.self.now.needs_reopen))

pub returns-in_err-write_record-clause-step : goal.returns-in_err-write_record-clause-step
returns-in_err-write_record-clause-step g c =
    let gone = err_from_is_err_and c.from_residual-in_err-write_record.result c.from_residual-in_err-write_record.ensures.1 in
    rw (gone.1, gone.2) (λ model.
    let known = (c.args.self.now.settled model c.if-self.false).found in
    let room : length (slots (g.D.Disk.seen c.args.self.now.disk)) < 1000000 = omega (arith, counted_slots _ _ known, c.count-count.ensures.value, c.if-count-ge-SLOT_LIMIT.false) in
    SpoolCall.not_stored c.args.delete (spool_state c.args.self.now.disk c.args.self.now.needs_reopen) (spool_state c.write_record.new.disk true) (ap not c.if-self.false)
    (record { reads = c.write_record.ensures.reads; room = room; any_moment = c.write_record.ensures.any_moment model }) refl)

pub returns-clause-step : goal.returns-clause-step
returns-clause-step g c = λ model.
    let known = (c.args.self.now.settled model c.if-self.false).found in
    let room : length (slots (g.D.Disk.seen c.args.self.now.disk)) < 1000000 = omega (arith, counted_slots _ _ known, c.count-count.ensures.value, c.if-count-ge-SLOT_LIMIT.false) in
    SpoolCall.stored c.args.delete (spool_state c.args.self.now.disk c.args.self.now.needs_reopen) (spool_state c.write_record.new.disk false) (ap not c.if-self.false)
    (record {
      writes = record { reads = c.write_record.ensures.reads; room = room; any_moment = c.write_record.ensures.any_moment model };
      adds = c.in_ok-write_record.ensures.slots model;
      durable = c.in_ok-write_record.ensures.durable model;
    }) refl
