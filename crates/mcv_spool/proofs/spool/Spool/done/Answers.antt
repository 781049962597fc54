use Rattle.std.proofs.Common.{◌∙◌, ap, sym, arith, List, ℕ, None, get_or, is_some, map, not, true, false, true≢false, refl, subst}
use Rattle.std.proofs.lemmas.Result.{err_from_is_err_and}
use Rattle.mcv_spool.specs.File.{marked, read_record, slots}
use Rattle.mcv_spool.specs.History.{SpoolCall, spool_state}
use Rattle.mcv_spool.specs.Version.{IsVersion}
use Rattle.mcv_spool.proofs.Marks.{records_marked}
use Rattle.mcv_spool.proofs.Moments.{started}
use Rattle.mcv_spool.proofs.Records.{nothing_there}
use Rattle.mcv_spool.proofs.SettledSpool.{counted_slots, settled_done}
use Rattle.mcv_spool.proofs.spool.Spool.done.Goals as goal

pub returns-then-not-has-clause-pending : goal.returns-then-not-has-clause-pending
returns-then-not-has-clause-pending g c = nothing_there c.args.seq c.args.self.now.contents.pending.items (sym c.has.ensures.value ∙ c.if-not-has.true)

pub write_done-requires-clause-there : goal.write_done-requires-clause-there
write_done-requires-clause-there g c = λ model.
    let known = (c.args.self.now.settled model c.if-self.false).found in
    omega (arith, counted_slots _ _ known, c.has.ensures.there c.if-not-has.false)

pub invariant_of-self-2 : goal.invariant_of-self-2
invariant_of-self-2 g c = record {
  settled = λ model ready.
      let known = (c.args.self.now.settled model c.if-self.false).found in
      settled_done (g.D.Disk.seen c.args.self.now.disk) (g.D.Disk.seen c.write_done.new.disk) (g.D.Disk.may_leave c.write_done.new.disk) c.args.seq c.args.self.now.contents.pending.items known
      (omega (arith, counted_slots _ _ known, c.has.ensures.there c.if-not-has.false)) (c.in_ok-write_done.ensures.slots model) (c.in_ok-write_done.ensures.crash model)
      c.forget.new.self.pending.items c.forget.ensures;
}

pub returns-then-self-clause-step : goal.returns-then-self-clause-step
returns-then-self-clause-step g c = λ model. SpoolCall.nothing (spool_state c.args.self.now.disk c.args.self.now.needs_reopen)

pub returns-then-not-has-clause-step : goal.returns-then-not-has-clause-step
returns-then-not-has-clause-step g c = λ model.
    let w = spool_state c.args.self.now.disk c.args.self.now.needs_reopen in
    SpoolCall.marks c.args.seq w w (ap not c.if-self.false) (record {
      any_moment = started g.D.Disk.seen g.D.Disk.may_leave g.D.Disk.moment g.D.Disk.left_since w.disk (IsVersion (marked c.args.seq (slots (g.D.Disk.seen w.disk))));
      same = λ ready. refl;
    })

pub returns-in_err-write_done-clause-step : goal.returns-in_err-write_done-clause-step
returns-in_err-write_done-clause-step g c =
    let gone = err_from_is_err_and c.from_residual.result c.from_residual.ensures.1 in
    rw (gone.1, gone.2) (λ model. SpoolCall.marks c.args.seq (spool_state c.args.self.now.disk c.args.self.now.needs_reopen) (spool_state c.write_done.new.disk true) (ap not c.if-self.false)
    (record { any_moment = c.write_done.ensures.any_moment model; same = λ ready. absurd (true≢false (sym ready)) }))

pub returns-clause-step : goal.returns-clause-step
returns-clause-step g c = λ model.
    let file = g.D.Disk.seen c.args.self.now.disk in
    SpoolCall.marks c.args.seq (spool_state c.args.self.now.disk c.args.self.now.needs_reopen) (spool_state c.write_done.new.disk false) (ap not c.if-self.false)
    (record { any_moment = c.write_done.ensures.any_moment model; same = λ ready. ap (λ (ss : List (List ℕ)). map read_record ss) (c.in_ok-write_done.ensures.slots model) ∙ records_marked (slots file) c.args.seq 1 })
