use Rattle.std.proofs.Common.{arith}
use Rattle.mcv_reply.proofs.Stages.{wrong_return}
use Rattle.mcv_reply.proofs.progress.in_value.Goals as goal

pub returns-then-piece-ne13 : goal.returns-then-piece-ne13
returns-then-piece-ne13 c =
    let p = c.args.progress.now in
    wrong_return c.args.op c.args.key.now c.requires.clean p.head p.first.items p.body.items c.requires.at.0 c.args.piece.now (omega (arith, c.requires.at.1, c.len.ensures, c.if-missing-eq0.true)) c.requires.some c.if-piece-ne13.true
