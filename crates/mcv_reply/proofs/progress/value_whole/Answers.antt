use Rattle.std.proofs.Common.{◌≡◌, ◌++◌, take, arith}
use Rattle.std.proofs.lemmas.Grind.{common_steps}
use Rattle.std.proofs.lemmas.Result.{err_from_is_err_and}
use Rattle.mcv_reply.proofs.PlainSteps.{hit_fault, value_step}
use Rattle.mcv_reply.proofs.progress.value_whole.Goals as goal

pub returns-in_err-reply : goal.returns-in_err-reply
returns-in_err-reply c = let p = err_from_is_err_and c.from_residual.result c.from_residual.ensures.1 in rw (p.1, p.2) (
    hit_fault c.args.op c.args.key.now _ c.args.piece.now c.extend_from_slice.new.self.items c.has_cas.result c.args.progress.now.head c.in_err-reply.field-0.0 _ c.in_err-reply.ensures)

pub returns : goal.returns
returns c =
    let q = c.args.progress.now in
    let piece = c.args.piece.now in
    let made : c.extend_from_slice.new.self.items ≡ q.body.items ++ take c.args.missing piece = grind (arith, common_steps) in (
      omega arith,
      omega (arith, c.requires.ends.within),
      value_step c.args.op c.args.key.now q.head q.first.items q.body.items piece c.args.missing c.requires.at.0 c.requires.missing c.requires.ends c.extend_from_slice.new.self.items c.has_cas.result c.in_ok-reply.reply q made c.has_cas.ensures c.in_ok-reply.ensures,
    )
