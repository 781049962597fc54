use Rattle.std.proofs.Common.{◌≡◌, ◌∙◌, ◌++◌, ◌∷◌, [], List, Option, Some, ap, append_assoc, arith, length, length-append, map, map-id, rules, subst, sym}
use Rattle.std.proofs.lemmas.Iterator.Adapters.{YieldsList-from_vec}
use Rattle.std.proofs.lemmas.Iterator.Consumers.{YieldsList-end}
use Rattle.std.proofs.lemmas.List.{map_push}
use Rattle.mcv_base.specs.declared.reply.Part.{Part}
use Rattle.mcv_desks.proofs.MixedReplies.{one_is_there}
use Rattle.mcv_desks.proofs.mixed.joined.Goals as goal

pub unwrap-requires : goal.unwrap-requires
unwrap-requires c =
    let before = c.loop-reply.yielded in
    let behind = c.next.new.self.rest.items in
    let all : before ++ c.in-Some.reply ∷ behind ≡ c.args.replies.items = subst (λ (xs : List (Option Part)). before ++ xs ≡ c.args.replies.items) c.in-Some.ensures.steps.0 c.loop-reply.invariant.left in
    one_is_there c.requires.each.0 before behind c.in-Some.reply (all ∙ c.requires.each.1)

pub loop-reply-init : goal.loop-reply-init
loop-reply-init c =
    let rest : c.into_iter-reply-iterator.result.rest.items ≡ c.args.replies.items = search rules in
    let left = ap length rest in
    let empty = ap length c.requires.empty in
    let room = c.requires.room in
    record { so_far = ap (map Some) c.requires.empty; left = rest; room = omega (arith, left, empty, room) }

pub loop-reply-preserved : goal.loop-reply-preserved
loop-reply-preserved c =
    let before = c.loop-reply.invariant in
    let left = ap length c.in-Some.ensures.steps.0 in
    let room = before.room in
    let items = ap length c.push_reserved.ensures.items in
    let more = length-append c.loop-reply.parts.items (c.unwrap.result ∷ []) in
    let capacity = c.push_reserved.ensures.capacity in
    record {
      so_far =
          ap (map Some) c.push_reserved.ensures.items ∙ map_push Some c.loop-reply.parts.items c.unwrap.result ∙ ap (λ (xs : List (Option Part)). xs ++ Some c.unwrap.result ∷ []) before.so_far
          ∙ ap (λ (o : Option Part). c.loop-reply.yielded ++ o ∷ []) (sym c.unwrap.ensures);
      left = append_assoc c.loop-reply.yielded (c.in-Some.reply ∷ []) c.next.new.self.rest.items ∙ ap (λ (xs : List (Option Part)). c.loop-reply.yielded ++ xs) (sym c.in-Some.ensures.steps.0) ∙ before.left;
      room = omega (arith, room, left, items, more, capacity);
    }

pub returns : goal.returns
returns c =
    let end = YieldsList-end (YieldsList-from_vec {s = c.into_iter-reply-iterator.result} c.args.replies.items (search rules) (search rules)) c.loop-reply.yielded c.loop-reply.reply-iterator c.loop-reply.yielded_by c.next.result c.next.new.self c.in-None.is c.next.ensures.steps in
    c.loop-reply.invariant.so_far ∙ (sym (map-id c.loop-reply.yielded) ∙ end.0)
