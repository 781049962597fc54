use Rattle.std.proofs.Common.{arith, subst}
use Rattle.std.specs.Arc.{arc_value}
use Rattle.mcv_base.specs.declared.request.Request.{Request}
use Rattle.mcv_text.specs.Request.{request_value}
use Rattle.mcv_desks.specs.OneKey.{AreOfKeys}
use Rattle.mcv_desks.proofs.MixedReplies.{nothing_replied}
use Rattle.mcv_desks.proofs.mixed.Mixed.new.Goals as goal

pub invariant_of-result : goal.invariant_of-result
invariant_of-result g c =
    let of_keys = c.in_ok-of_keys.of_keys.items in
    let each = c.in_ok-of_keys.ensures.one_each in
    let count = c.key_count-count.ensures in
    let many = c.in_ok-replies.ensures.many in
    let exact = c.in_ok-parts.ensures.exact in
    record {
      keys = subst (λ (r : Request). AreOfKeys (request_value r) of_keys) c.deref-words.ensures c.in_ok-of_keys.ensures;
      one_each = omega (arith, each, count, many);
      replied = nothing_replied g.F.HubNames.opened_of c.args.hubs (request_value (arc_value c.args.request)) c.in_ok-replies.replies.items c.in_ok-replies.ensures.none;
      counted = λ _. omega arith;
      why = tt;
      room = omega (arith, each, count, exact);
      no_parts = c.in_ok-parts.ensures.items;
    }
