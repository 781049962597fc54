use Rattle.std.proofs.Common.{[], None, arith, rules}
use Rattle.std.specs.Arc.{arc_value}
use Rattle.mcv_text.specs.Request.{request_value}
use Rattle.mcv_turn.proofs.Books.{none_was_begun}
use Rattle.mcv_turn.proofs.Taken.{none_taken}
use Rattle.mcv_turn.proofs.question.Question.new.Goals as goal

pub invariant_of-result : goal.invariant_of-result
invariant_of-result g c =
    let start = g.B.HubLedger.opened in
    let request = request_value (arc_value c.args.request) in
    record {
      count_is = search rules;
      begun = none_was_begun start request c.in_ok-calls.calls.items c.in_ok-calls.ensures.items;
      most = search rules;
      so_far = none_taken start c.in_ok-calls.calls.items c.in_ok-taken.taken.items c.in_ok-taken.ensures.items;
      refusal = tt;
      calls_room = search rules;
      taken_room = search rules;
      parts_room = search rules;
      no_parts = search rules;
    }
