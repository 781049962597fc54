use Rattle.mcv_hub.proofs.Books.{refused_counts, taken_begins, taken_counts, untaken_counts}
use Rattle.mcv_turn.proofs.Books.{missing_call, no_call}
use Rattle.mcv_turn.proofs.Taken.{found_call, found_was_taken}
use Rattle.mcv_turn.specs.Runs.{taken}
use Rattle.mcv_turn.proofs.take.take_one.Goals as goal

pub returns-clause-runs : goal.returns-clause-runs
returns-clause-runs g c = taken c.args.guard.now c.take_reply.new.self c.args.call c.take_reply.result c.take_reply.ensures.event

pub returns-clause-taken : goal.returns-clause-taken
returns-clause-taken g c = found_was_taken g.B.HubLedger.opened c.args.guard.now c.args.call c.take_reply.result c.is_opened.ensures c.deletes_are_kept.ensures c.take_reply.ensures.receipt

pub returns-clause-call : goal.returns-clause-call
returns-clause-call g c = found_call c.args.guard.now c.args.call c.take_reply.result c.take_reply.ensures.receipt

pub returns-clause-counted : goal.returns-clause-counted
returns-clause-counted g c = taken_counts c.args.call c.args.guard.now c.take_reply.new.self c.take_reply.result c.args.seat.now.taken.amount c.take_reply.new.seat.taken.amount c.take_reply.ensures.event c.take_reply.ensures.taken

pub returns-clause-uncounted : goal.returns-clause-uncounted
returns-clause-uncounted g c = untaken_counts c.args.call c.args.guard.now c.take_reply.new.self c.take_reply.result c.args.seat.now.taken.amount c.take_reply.new.seat.taken.amount c.take_reply.ensures.event c.take_reply.ensures.taken

pub returns-clause-refused : goal.returns-clause-refused
returns-clause-refused g c = refused_counts c.args.call c.args.guard.now c.take_reply.new.self c.take_reply.result c.args.seat.now.taken.amount c.take_reply.new.seat.taken.amount c.take_reply.ensures.event c.take_reply.ensures.taken

pub returns-clause-begun : goal.returns-clause-begun
returns-clause-begun g c = taken_begins c.args.call c.args.guard.now c.take_reply.new.self c.take_reply.result c.args.seat.now.begun.amount c.take_reply.new.seat.begun.amount c.take_reply.ensures.event c.take_reply.ensures.begun

pub returns-clause-err : goal.returns-clause-err
returns-clause-err g c = no_call c.args.call c.args.guard.now c.take_reply.new.self c.take_reply.result c.take_reply.ensures.event

pub returns-clause-missing : goal.returns-clause-missing
returns-clause-missing g c = missing_call c.args.call c.args.guard.now c.take_reply.new.self g.B.HubLedger.opened c.take_reply.result c.is_opened.ensures c.deletes_are_kept.ensures c.take_reply.ensures.event
