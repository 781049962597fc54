use Rattle.std.proofs.Common.{◌≡◌, List, ℕ, Ok, Err, true, sym, subst}
use Rattle.std.proofs.lemmas.Result.{err_from_is_err_and}
use Rattle.mcv_reply.specs.Candidate.{is_clean}
use Rattle.mcv_reply.specs.Flight.{held_in}
use Rattle.mcv_reply.proofs.Words.{key_clean}
use Rattle.mcv_reply.proofs.FlightSteps.{oldest_fault, oldest_key, oldest_none, oldest_read, oldest_reply, open_fed, steps_of}
use Rattle.mcv_reply.proofs.replies.step_oldest.Goals as goal

pub take_step-requires-clause-clean : goal.take_step-requires-clause-clean
take_step-requires-clause-clean c =
    let leg = c.in-Some.leg.now in
    subst (λ (k : List ℕ). is_clean k ≡ true) (sym c.key.ensures) (key_clean leg.key (oldest_key leg c.args.legs.now.items c.in-Some.ensures c.requires.flight.keys))

pub take_step-requires-clause-fed : goal.take_step-requires-clause-fed
take_step-requires-clause-fed c =
    let p = c.args.progress.now in
    (held_in p, open_fed p.stage p (oldest_read c.in-Some.leg.now c.args.legs.now.items p c.in-Some.ensures c.requires.flight.is_read).1)

pub returns-in_err-used : goal.returns-in_err-used
returns-in_err-used c = let p = err_from_is_err_and c.from_residual.result c.from_residual.ensures.1 in rw (p.1, p.2) (
    let old = c.args.progress.now in
    let new = c.take_step.new.progress in
    let legs = c.args.legs.now.items in
    let leg = c.in-Some.leg.now in
    let piece = c.args.piece.now in
    let fault = c.in_err-used.field-0.0 in
    let fed = open_fed old.stage old (oldest_read leg legs old c.in-Some.ensures c.requires.flight.is_read).1 in
    oldest_fault legs old piece leg c.in-Some.ensures fault new new legs (steps_of c.op.result leg.op c.key.result.now leg.key (held_in old) piece (Err fault) new c.op.ensures c.key.ensures (c.in_err-used.ensures.steps (held_in old) fed)))

pub returns-in-None : goal.returns-in-None
returns-in-None c =
    let old = c.args.progress.now in
    let new = c.take_step.new.progress in
    let legs = c.args.legs.now.items in
    let leg = c.in-Some.leg.now in
    let piece = c.args.piece.now in
    let step = c.in_ok-used.field-0 in
    let fed = open_fed old.stage old (oldest_read leg legs old c.in-Some.ensures c.requires.flight.is_read).1 in
    let steps = steps_of c.op.result leg.op c.key.result.now leg.key (held_in old) piece (Ok step) new c.op.ensures c.key.ensures (c.in_ok-used.ensures.steps (held_in old) fed) in
    let made = oldest_none legs old piece leg c.in-Some.ensures step.used step.reply new c.requires.flight.keys c.in-None.is steps.2 in
    (steps.0, steps.1, made.0, made.1)

pub returns-in-Some-reply : goal.returns-in-Some-reply
returns-in-Some-reply c =
    let old = c.args.progress.now in
    let new = c.take_step.new.progress in
    let legs = c.args.legs.now.items in
    let leg = c.in-Some.leg.now in
    let piece = c.args.piece.now in
    let step = c.in_ok-used.field-0 in
    let after = c.forget_oldest.new in
    let fed = open_fed old.stage old (oldest_read leg legs old c.in-Some.ensures c.requires.flight.is_read).1 in
    let steps = steps_of c.op.result leg.op c.key.result.now leg.key (held_in old) piece (Ok step) new c.op.ensures c.key.ensures (c.in_ok-used.ensures.steps (held_in old) fed) in
    let made = oldest_reply legs old piece leg c.in-Some.ensures step.used step.reply c.in-Some-reply.reply new after.progress after.legs.items c.in-Some-reply.is c.forget_oldest.ensures.left c.forget_oldest.ensures.none steps.2 in
    (steps.0, steps.1, c.forget_oldest.ensures.flight, made)
