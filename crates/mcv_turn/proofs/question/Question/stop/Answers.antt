use Rattle.std.proofs.Common.{Err, inr, length}
use Rattle.std.specs.Arc.{arc_value}
use Rattle.mcv_core.specs.declared.fault.CoreFault.TheVariants.{Memory}
use Rattle.mcv_text.specs.Request.{request_value}
use Rattle.mcv_turn.proofs.Books.{was_refused}
use Rattle.mcv_turn.proofs.question.Question.stop.Goals as goal

pub returns-clause-why : goal.returns-clause-why
returns-clause-why g c =
    let q = c.self.inside in
    let asked = arc_value q.request in
    let key = length q.calls.items in
    record {
      request = request_value asked;
      key = key;
      was = was_refused g.B.HubLedger.opened asked key c.args.guard.now (Err Memory) c.is_opened.ensures c.deletes_are_kept.ensures (inr tt);
    }

pub invariant_of-self : goal.invariant_of-self
invariant_of-self g c =
    let q = c.self.inside in
    let before = c.self.invariant in
    record {
      count_is = before.count_is;
      begun = before.begun;
      most = before.most;
      so_far = before.so_far;
      refusal = was_refused g.B.HubLedger.opened (arc_value q.request) (length q.calls.items) c.args.guard.now (Err Memory) c.is_opened.ensures c.deletes_are_kept.ensures (inr tt);
      calls_room = before.calls_room;
      taken_room = before.taken_room;
      parts_room = before.parts_room;
      no_parts = before.no_parts;
    }
