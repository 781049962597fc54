use Rattle.mcv_hubs.proofs.Counting.{taken_tally}
use Rattle.mcv_hubs.proofs.one.take_reply.Goals as goal

pub returns-clause-event : goal.returns-clause-event
returns-clause-event g c =
    record {
      before = _;
      after = c.take_reply-taken.new.self;
      number = c.is_numbered.ensures;
      keeps = c.deletes_are_kept.ensures;
      event = c.take_reply-taken.ensures.event;
      receipt = c.take_reply-taken.ensures.receipt;
    }

pub returns-clause-counted : goal.returns-clause-counted
returns-clause-counted g c =
    let s = c.args.seat.now in
    let n = c.take_reply-taken.new.seat in
    taken_tally s.begun.amount n.begun.amount s.taken.amount n.taken.amount s.begun.parts n.begun.parts s.taken.parts n.taken.parts _ c.take_reply-taken.new.self c.take_reply-taken.ensures.begun c.take_reply-taken.ensures.taken c.take_reply-taken.ensures.parts c.args.call c.take_reply-taken.result c.take_reply-taken.ensures.event
