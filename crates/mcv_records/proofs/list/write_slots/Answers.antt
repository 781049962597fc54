use Rattle.std.proofs.Common.{◌∙◌, ◌+◌, ◌*◌, cond, take, drop, Err, sym, ap, subst, arith}
use Rattle.std.proofs.lemmas.Result.{err_from_is_err_and}
use Rattle.std.specs.Io.KnownBytes.{Appends}
use Rattle.mcv_spool.specs.File.{is_open, slots}
use Rattle.mcv_spool.proofs.Moments.{quiet_on}
use Rattle.mcv_records.specs.Text.{slot_lines}
use Rattle.mcv_records.specs.declared.fault.RecordsFault.TheVariants.{Damaged}
use Rattle.mcv_records.proofs.Listing.{at_most_one, below_limit, count_is, ended_count, ended_lines, ended_sound, goes_on, none_listed, quiet_here, same_fault, slot_damaged}
use Rattle.mcv_records.proofs.list.write_slots.Goals as goal

pub loop-number-init : goal.loop-number-init
loop-number-init g c = record {
  few = omega arith;
  small = omega arith;
  quiet = λ model. quiet_here g.D.Disk.seen g.D.Disk.may_leave g.D.Disk.moment g.D.Disk.left_since c.args.disk.now;
  listed = λ model. none_listed c.args.shown (g.D.Disk.seen c.args.disk.now) (g.W.Write.contents c.args.writer.now);
}

pub loop-number-preserved : goal.loop-number-preserved
loop-number-preserved g c =
    let so_far = c.loop-number.invariant in
    let n = c.loop-number.number in
    record {
      few = below_limit n c.read_slot.new.slot so_far.few c.in_ok-is_pending.ensures.sound;
      small = omega (arith, so_far.small, c.count-more.ensures, at_most_one c.in_ok-is_pending.is_pending);
      quiet = λ model. quiet_on g.D.Disk.seen g.D.Disk.may_leave g.D.Disk.moment g.D.Disk.left_since c.args.disk.now c.loop-number.disk c.read_slot.new.disk (so_far.quiet model) (c.read_slot.ensures.quiet model);
      listed = λ model.
          let same = (so_far.quiet model).same in
          goes_on c.args.shown (g.D.Disk.seen c.args.disk.now) n c.loop-number.pending (g.W.Write.contents c.args.writer.now) (g.W.Write.contents c.loop-number.writer) (so_far.listed model)
          (ap (λ f. is_open (drop (640 * n) f)) (sym same) ∙ sym (c.in_ok-is_there.ensures.counts model) ∙ c.if-not-is_there.false)
          c.read_slot.new.slot (c.in_ok-is_there.ensures.slot model c.if-not-is_there.false ∙ ap (λ f. take 640 (drop (640 * n) f)) same)
          _ (g.W.Write.contents c.write_slot.new.writer) c.in_ok-is_pending.ensures.sound c.in_ok-is_pending.ensures.written
          (ap (λ m. c.loop-number.pending + m) (c.count-more.ensures ∙ ap (λ b. cond b 1 0) c.in_ok-is_pending.ensures.pending));
    }

pub returns-then-not-is_there-clause-written : goal.returns-then-not-is_there-clause-written
returns-then-not-is_there-clause-written g c = λ model.
    let so_far = c.loop-number.invariant in
    ended_lines c.args.shown (g.D.Disk.seen c.args.disk.now) c.loop-number.number c.loop-number.pending (g.W.Write.contents c.args.writer.now) (g.W.Write.contents c.loop-number.writer) (so_far.listed model)
    (ap (λ f. is_open (drop (640 * c.loop-number.number) f)) (sym (so_far.quiet model).same) ∙ sym (c.in_ok-is_there.ensures.counts model) ∙ c.if-not-is_there.true)

pub returns-then-not-is_there-clause-records : goal.returns-then-not-is_there-clause-records
returns-then-not-is_there-clause-records g c = λ model.
    let so_far = c.loop-number.invariant in
    count_is c.args.shown (g.D.Disk.seen c.args.disk.now) c.loop-number.number c.loop-number.pending (g.W.Write.contents c.args.writer.now) (g.W.Write.contents c.loop-number.writer) (so_far.listed model)
    (ap (λ f. is_open (drop (640 * c.loop-number.number) f)) (sym (so_far.quiet model).same) ∙ sym (c.in_ok-is_there.ensures.counts model) ∙ c.if-not-is_there.true)

pub returns-then-not-is_there-clause-pending : goal.returns-then-not-is_there-clause-pending
returns-then-not-is_there-clause-pending g c = λ model.
    let so_far = c.loop-number.invariant in
    ended_count c.args.shown (g.D.Disk.seen c.args.disk.now) c.loop-number.number c.loop-number.pending (g.W.Write.contents c.args.writer.now) (g.W.Write.contents c.loop-number.writer) (so_far.listed model)
    (ap (λ f. is_open (drop (640 * c.loop-number.number) f)) (sym (so_far.quiet model).same) ∙ sym (c.in_ok-is_there.ensures.counts model) ∙ c.if-not-is_there.true)

pub returns-then-not-is_there-clause-sound : goal.returns-then-not-is_there-clause-sound
returns-then-not-is_there-clause-sound g c = λ model.
    let so_far = c.loop-number.invariant in
    ended_sound c.args.shown (g.D.Disk.seen c.args.disk.now) c.loop-number.number c.loop-number.pending (g.W.Write.contents c.args.writer.now) (g.W.Write.contents c.loop-number.writer) (so_far.listed model)
    (ap (λ f. is_open (drop (640 * c.loop-number.number) f)) (sym (so_far.quiet model).same) ∙ sym (c.in_ok-is_there.ensures.counts model) ∙ c.if-not-is_there.true)

pub returns-in_err-is_pending-clause-damaged : goal.returns-in_err-is_pending-clause-damaged
returns-in_err-is_pending-clause-damaged g c = λ model k h.
    let so_far = c.loop-number.invariant in
    let n = c.loop-number.number in
    let file = g.D.Disk.seen c.args.disk.now in
    let same = (so_far.quiet model).same in
    let gone = err_from_is_err_and c.from_residual-in_err-is_pending.result c.from_residual-in_err-is_pending.ensures.1 in
    let bad = c.in_err-is_pending.ensures.damaged k (ap Err (sym gone.2 ∙ same_fault c.from_residual-in_err-is_pending.result gone.0 (Damaged k) gone.1 h)) in (
      slot_damaged c.args.shown file n c.loop-number.pending (g.W.Write.contents c.args.writer.now) (g.W.Write.contents c.loop-number.writer) (so_far.listed model)
          (ap (λ f. is_open (drop (640 * n) f)) (sym same) ∙ sym (c.in_ok-is_there.ensures.counts model) ∙ c.if-not-is_there.false)
          c.read_slot.new.slot (c.in_ok-is_there.ensures.slot model c.if-not-is_there.false ∙ ap (λ f. take 640 (drop (640 * n) f)) same) k bad.1,
      subst (λ w. Appends (g.W.Write.contents c.args.writer.now) (g.W.Write.contents w) (slot_lines c.args.shown 0 (take k (slots file)))) (sym bad.2)
          (subst (λ m. Appends (g.W.Write.contents c.args.writer.now) (g.W.Write.contents c.loop-number.writer) (slot_lines c.args.shown 0 (take m (slots file)))) (sym bad.0) (so_far.listed model).lines),
    )
