use Rattle.std.proofs.Common.{◌≡◌, [], ◌∷◌, length, refl, sym, ap, append-nil, length-append, rules, arith}
use Rattle.mcv_pipeline.specs.Pipeline.{with_reply}
use Rattle.mcv_pipeline.proofs.Landing.{lands_more}
use Rattle.mcv_pipeline.proofs.pipeline.land.Goals as goal

pub loop-reply-init : goal.loop-reply-init
loop-reply-init c =
    let rest : c.into_iter-reply-iterator.result.rest.items ≡ c.args.replies.items = search rules in
    let left = ap length rest in
    let legs = c.requires.legs in
    let room = c.requires.room in
    record {
      can = tt;
      finite = tt;
      legs = omega (arith, left, legs);
      room = omega (arith, left, room);
      so_far = record { more = []; landed = sym (append-nil c.args.landed.now.items); legs = refl; replies_are = refl };
    }

pub land_one-requires : goal.land_one-requires
land_one-requires c =
    let left = ap length c.in-Some.ensures.steps.0 in
    let legs = c.loop-reply.invariant.legs in
    let room = c.loop-reply.invariant.room in
    record { leg = omega (arith, left, legs); room = omega (arith, left, room) }

pub loop-reply-preserved : goal.loop-reply-preserved
loop-reply-preserved c =
    let before = c.loop-reply.invariant in
    let one = c.land_one.ensures.lands in
    let left = ap length c.in-Some.ensures.steps.0 in
    let fewer = ap length one.legs in
    let more = ap length one.landed in
    let count = length-append c.loop-reply.landed.items (with_reply one.leg c.in-Some.reply ∷ []) in
    let same = c.land_one.ensures.room in
    let legs = before.legs in
    let room = before.room in
    record {
      can = tt;
      finite = tt;
      legs = omega (arith, left, fewer, legs);
      room = omega (arith, left, more, count, same, room);
      so_far = lands_more c.args.legs.now.items c.loop-reply.yielded c.args.landed.now.items c.loop-reply.legs.items c.land_one.new.legs.items c.loop-reply.landed.items c.land_one.new.landed.items c.in-Some.reply before.so_far one;
    }
