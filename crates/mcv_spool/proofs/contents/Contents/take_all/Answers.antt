use Rattle.std.proofs.Common.{refl, sym, ap, ◌∙◌, length, get_or, Err}
use Rattle.std.proofs.lemmas.Result.{err_from_is_err_and}
use Rattle.mcv_spool.proofs.Pieces.{walk_damaged, walk_on, walk_sound, walk_undone}
use Rattle.mcv_spool.proofs.Slots.{shut_gate, shut_short}
use Rattle.mcv_spool.proofs.contents.Contents.take_all.Goals as goal

pub loop-rest-init : goal.loop-rest-init
loop-rest-init c = record { left = refl; undone = refl; sound = refl }

pub returns-in_err-take-clause-damaged : goal.returns-in_err-take-clause-damaged
returns-in_err-take-clause-damaged c = λ k h.
    let gone = err_from_is_err_and c.from_residual.result c.from_residual.ensures.1 in
    walk_damaged _ _ _ _ c.loop-rest.invariant c.loop-rest-test.true c.if-rest-ne-CLOSED.true _ c.split_at.ensures.front k
    (c.in_err-take.ensures.damaged k (ap Err (sym gone.2) ∙ (sym gone.1 ∙ h)))

pub loop-rest-preserved : goal.loop-rest-preserved
loop-rest-preserved c =
    walk_on _ _ _ _ c.loop-rest.invariant c.loop-rest-test.true c.if-rest-ne-CLOSED.true _ _ c.split_at.ensures.front c.split_at.ensures.back _ c.in_ok-take.ensures.sound c.in_ok-take.ensures.pending

pub returns-else-rest-ne-CLOSED-clause-sound : goal.returns-else-rest-ne-CLOSED-clause-sound
returns-else-rest-ne-CLOSED-clause-sound c = walk_sound _ _ _ _ c.loop-rest.invariant (shut_gate (length c.loop-rest.rest.now) (get_or c.loop-rest.rest.now 0 0) c.if-rest-ne-CLOSED.false)

pub returns-else-rest-ne-CLOSED-clause-pending : goal.returns-else-rest-ne-CLOSED-clause-pending
returns-else-rest-ne-CLOSED-clause-pending c = walk_undone _ _ _ _ c.loop-rest.invariant (shut_gate (length c.loop-rest.rest.now) (get_or c.loop-rest.rest.now 0 0) c.if-rest-ne-CLOSED.false)

pub returns-after-loop-rest-clause-sound : goal.returns-after-loop-rest-clause-sound
returns-after-loop-rest-clause-sound c = walk_sound _ _ _ _ c.loop-rest.invariant (shut_short (length c.loop-rest.rest.now) (get_or c.loop-rest.rest.now 0 0) c.loop-rest-test.false)

pub returns-after-loop-rest-clause-pending : goal.returns-after-loop-rest-clause-pending
returns-after-loop-rest-clause-pending c = walk_undone _ _ _ _ c.loop-rest.invariant (shut_short (length c.loop-rest.rest.now) (get_or c.loop-rest.rest.now 0 0) c.loop-rest-test.false)
