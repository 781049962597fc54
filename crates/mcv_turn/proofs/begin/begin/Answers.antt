use Rattle.std.specs.Arc.{arc_value}
use Rattle.mcv_hub.proofs.Books.{begun_counts, begun_takes, unbegun_cause, unbegun_counts}
use Rattle.mcv_turn.proofs.Books.{was_begun, was_refused}
use Rattle.mcv_turn.proofs.begin.begin.Goals as goal

pub returns-clause-begun : goal.returns-clause-begun
returns-clause-begun g c = begun_counts (arc_value c.args.request) c.args.key c.args.guard.now c.begin.new.self c.begin.result c.args.seat.now.begun.amount c.begin.new.seat.begun.amount c.begin.ensures.event c.begin.ensures.begun

pub returns-clause-unbegun : goal.returns-clause-unbegun
returns-clause-unbegun g c = unbegun_counts (arc_value c.args.request) c.args.key c.args.guard.now c.begin.new.self c.begin.result c.args.seat.now.begun.amount c.begin.new.seat.begun.amount c.begin.ensures.event c.begin.ensures.begun

pub returns-clause-taken : goal.returns-clause-taken
returns-clause-taken g c = begun_takes (arc_value c.args.request) c.args.key c.args.guard.now c.begin.new.self c.begin.result c.args.seat.now.taken.amount c.begin.new.seat.taken.amount c.begin.ensures.event c.begin.ensures.taken

pub returns-clause-refused : goal.returns-clause-refused
returns-clause-refused g c =
    was_refused g.B.HubLedger.opened (arc_value c.args.request) c.args.key c.args.guard.now c.begin.result c.is_opened.ensures c.deletes_are_kept.ensures
    (unbegun_cause (arc_value c.args.request) c.args.key c.args.guard.now c.begin.new.self c.begin.result c.begin.ensures.event)

pub returns-clause-began : goal.returns-clause-began
returns-clause-began g c = was_begun g.B.HubLedger.opened (arc_value c.args.request) c.args.key c.args.guard.now c.begin.new.self c.begin.result c.is_opened.ensures c.deletes_are_kept.ensures c.begin.ensures.event
