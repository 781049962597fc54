use Rattle.std.proofs.Common.{◌≡◌, ◌++◌, length, map, arith}
use Rattle.std.proofs.lemmas.Result.{err_from_is_err_and}
use Rattle.mcv_base.specs.Reply.{reply_value}
use Rattle.mcv_reply.specs.Flight.{held_in}
use Rattle.mcv_reply.proofs.FlightSteps.{leads_all, leads_fault, leads_memory}
use Rattle.mcv_reply.proofs.replies.read_replies.Goals as goal

pub returns-in_err-used : goal.returns-in_err-used
returns-in_err-used c = let p = err_from_is_err_and c.from_residual.result c.from_residual.ensures.1 in rw (p.1, p.2) (
    let g = c.loop-left.invariant.given in
    let now = c.loop-left.legs.items in
    let after = c.step_oldest.new in
    (g.0, g.1, leads_fault c.args.legs.now.items (held_in c.args.progress.now ++ c.args.piece.now) c.loop-left.left.now (map reply_value g.0) now c.loop-left.progress c.in_err-used.field-0.0 after.legs.items after.legs.items after.progress after.progress g.2 c.in_err-used.ensures))

pub returns-in_err-keep : goal.returns-in_err-keep
returns-in_err-keep c = let p = err_from_is_err_and c.from_residual-in_err-keep.result c.from_residual-in_err-keep.ensures.1 in rw (p.1, p.2) (
    let g = c.loop-left.invariant.given in
    let now = c.loop-left.legs.items in
    let after = c.step_oldest.new in
    (g.0, cc (c.in_err-keep.ensures.same, g.1), leads_memory c.args.legs.now.items (held_in c.args.progress.now ++ c.args.piece.now) (map reply_value g.0) now (held_in c.loop-left.progress ++ c.loop-left.left.now) c.in_err-keep.field-0.0 after.legs.items after.progress c.in_err-keep.ensures.memory g.2))

pub returns : goal.returns
returns c =
    let g = c.loop-left.invariant.given in
    let none : length c.loop-left.left.now ≡ 0 = grind arith in
    (g.0, g.1, leads_all c.args.legs.now.items (held_in c.args.progress.now ++ c.args.piece.now) c.loop-left.left.now (map reply_value g.0) c.loop-left.legs.items c.loop-left.progress none c.loop-left.invariant.flight g.2)
