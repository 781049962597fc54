use Rattle.std.proofs.Common.{◌≡◌, ◌*◌, ◌+◌, Result, Err, length, take, drop, sym, ap, ◌∙◌, arith}
use Rattle.std.proofs.lemmas.Result.{err_from_is_err_and}
use Rattle.mcv_spool.specs.declared.fault.SpoolFault.{SpoolFault}
use Rattle.mcv_spool.specs.declared.fault.SpoolFault.TheVariants.{Damaged}
use Rattle.mcv_spool.proofs.Moments.{quiet_on}
use Rattle.mcv_spool.proofs.Pieces.{damaged_piece, ended, goes_on}
use Rattle.mcv_spool.proofs.find.find.Goals as goal

same_fault : {T : Type 0} (r : Result T SpoolFault) (x y : SpoolFault) → r ≡ Err x → r ≡ Err y → x ≡ y
same_fault r x y a b = cc

pub returns-in_err-take_all-clause-damaged : goal.returns-in_err-take_all-clause-damaged
returns-in_err-take_all-clause-damaged g c = λ model k h.
    let file = g.D.Disk.seen c.args.disk.now in
    let walked = c.loop-number.invariant in
    let pending = c.loop-number.found.pending.items in
    let at_is : 1024000 * c.loop-number.number ≡ 640 * length pending = omega (arith, walked.count) in
    let piece_is : c.deref.result.now ≡ take 1024001 (drop (640 * length pending) file) =
    c.deref.ensures.value ∙ (c.in_ok-piece.ensures.piece model ∙ (λ i. take 1024001 (drop (at_is i) ((walked.quiet model).same i)))) in
    let gone = err_from_is_err_and c.from_residual-in_err-take_all.result c.from_residual-in_err-take_all.ensures.1 in
    damaged_piece file pending (walked.so_far model) c.deref.result.now piece_is k (c.in_err-take_all.ensures.damaged k (ap Err (sym gone.2 ∙ same_fault c.from_residual-in_err-take_all.result gone.0 (Damaged k) gone.1 h)))

pub returns-then-count-number-clause-found : goal.returns-then-count-number-clause-found
returns-then-count-number-clause-found g c = λ model.
    let file = g.D.Disk.seen c.args.disk.now in
    let walked = c.loop-number.invariant in
    let pending = c.loop-number.found.pending.items in
    let at_is : 1024000 * c.loop-number.number ≡ 640 * length pending = omega (arith, walked.count) in
    let piece_is : c.deref.result.now ≡ take 1024001 (drop (640 * length pending) file) =
    c.deref.ensures.value ∙ (c.in_ok-piece.ensures.piece model ∙ (λ i. take 1024001 (drop (at_is i) ((walked.quiet model).same i)))) in
    ended file pending (walked.so_far model) c.deref.result.now piece_is c.take_all.new.self.pending.items
    c.in_ok-take_all.ensures.sound c.in_ok-take_all.ensures.pending (omega (arith, walked.count, c.count.ensures.value, c.if-count-number.true))

pub loop-number-preserved : goal.loop-number-preserved
loop-number-preserved g c =
    let walked = c.loop-number.invariant in
    let pending = c.loop-number.found.pending.items in
    let size : length c.deref.result.now ≡ length c.in_ok-piece.piece.items = ap length c.deref.ensures.value in
    let more : length c.take_all.new.self.pending.items ≡ length pending + 1600 = omega (arith, walked.count, c.count.ensures.value, c.if-count-number.false, c.in_ok-take_all.ensures.within, size, c.in_ok-piece.ensures.len) in
    record {
      count = omega (arith, walked.count, more);
      within = omega (arith, walked.count, walked.within, c.in_ok-take_all.ensures.within, size, c.in_ok-piece.ensures.len);
      so_far = λ model.
          let file = g.D.Disk.seen c.args.disk.now in
          let at_is : 1024000 * c.loop-number.number ≡ 640 * length pending = omega (arith, walked.count) in
          let piece_is : c.deref.result.now ≡ take 1024001 (drop (640 * length pending) file) =
          c.deref.ensures.value ∙ (c.in_ok-piece.ensures.piece model ∙ (λ i. take 1024001 (drop (at_is i) ((walked.quiet model).same i)))) in
          goes_on file pending (walked.so_far model) c.deref.result.now piece_is c.take_all.new.self.pending.items
          c.in_ok-take_all.ensures.sound c.in_ok-take_all.ensures.pending more;
      quiet = λ model. quiet_on g.D.Disk.seen g.D.Disk.may_leave g.D.Disk.moment g.D.Disk.left_since c.args.disk.now c.loop-number.disk c.read_piece.new.disk (walked.quiet model) (c.read_piece.ensures.quiet model);
      counts = λ model. omega (arith, walked.counts model, c.read_piece.ensures.counts model);
    }
