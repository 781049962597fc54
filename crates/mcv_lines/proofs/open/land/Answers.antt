use Rattle.std.proofs.Common.{◌≡◌, [], ◌∷◌, length, sym, ap, append-nil, length-append, length-drop, rules, arith}
use Rattle.mcv_lines.proofs.InFlight.{lands_next, lands_none}
use Rattle.mcv_lines.proofs.open.land.Goals as goal

pub loop-one-init : goal.loop-one-init
loop-one-init c =
    let rest : c.into_iter-one-iterator.result.rest.items ≡ c.args.landed.items = search rules in
    let left = ap length rest in
    let few = c.requires.few in
    record {
      can = tt;
      finite = tt;
      few = omega (arith, left, few);
      room = c.requires.room;
      so_far = lands_none c.args.server c.args.sent.now.items c.args.arrivals.now.items (sym (append-nil c.args.arrivals.now.items));
    }

pub land_one-requires : goal.land_one-requires
land_one-requires c =
    let left = ap length c.in-Some.ensures.steps.0 in
    let few = c.loop-one.invariant.few in
    let room = c.loop-one.invariant.room in
    omega (arith, left, few, room)

pub loop-one-preserved : goal.loop-one-preserved
loop-one-preserved c =
    let before = c.loop-one.invariant in
    let one = c.land_one.ensures.arrivals in
    let left = ap length c.in-Some.ensures.steps.0 in
    let sent = ap length c.land_one.ensures.sent in
    let fewer = length-drop 1 c.loop-one.sent.items in
    let more = ap length one.1 in
    let count = length-append c.loop-one.arrivals.items (one.0 ∷ []) in
    let same = c.land_one.ensures.room in
    let few = before.few in
    let room = before.room in
    record {
      can = tt;
      finite = tt;
      few = omega (arith, left, sent, fewer, few);
      room = omega (arith, left, sent, fewer, more, count, same, few, room);
      so_far = lands_next c.args.server c.args.sent.now.items c.loop-one.sent.items c.land_one.new.sent.items c.loop-one.yielded c.args.arrivals.now.items c.loop-one.arrivals.items c.land_one.new.arrivals.items c.in-Some.one before.so_far one c.land_one.ensures.sent;
    }
