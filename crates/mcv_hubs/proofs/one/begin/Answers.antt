use Rattle.std.specs.Arc.{arc_value}
use Rattle.mcv_hubs.proofs.Counting.{begun_tally}
use Rattle.mcv_hubs.proofs.one.begin.Goals as goal

pub returns-clause-event : goal.returns-clause-event
returns-clause-event g c = record { before = _; after = c.begin-begun.new.self; number = c.is_numbered.ensures; event = c.begin-begun.ensures.event }

pub returns-clause-counted : goal.returns-clause-counted
returns-clause-counted g c =
    let s = c.args.seat.now in
    let n = c.begin-begun.new.seat in
    begun_tally s.begun.amount n.begun.amount s.taken.amount n.taken.amount s.begun.parts n.begun.parts s.taken.parts n.taken.parts _ c.begin-begun.new.self c.begin-begun.ensures.begun c.begin-begun.ensures.taken c.begin-begun.ensures.parts (arc_value c.args.asked.0) c.args.asked.1 c.begin-begun.result c.begin-begun.ensures.event
