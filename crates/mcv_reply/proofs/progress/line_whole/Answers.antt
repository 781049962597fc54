use Rattle.std.proofs.Common.{[], ◌+◌, List, ℕ, take, drop, subst, sym, arith}
use Rattle.std.proofs.lemmas.Result.{err_from_is_err_and}
use Rattle.mcv_reply.specs.declared.word.Row.TheVariants.{Reply}
use Rattle.mcv_reply.specs.Line.{IsLine}
use Rattle.mcv_reply.proofs.PlainSteps.{first_step}
use Rattle.mcv_reply.proofs.Steps.{first_fault}
use Rattle.mcv_reply.proofs.progress.line_whole.Goals as goal

pub line_said-requires : goal.line_said-requires
line_said-requires c = subst (λ (t : List ℕ). IsLine (Reply c.args.op) c.args.key.now c.args.said.first c.args.said.head t) (sym c.in-Ok.ensures.items) c.requires.line

pub returns-in_err-reply : goal.returns-in_err-reply
returns-in_err-reply c = let p = err_from_is_err_and c.from_residual.result c.from_residual.ensures.1 in rw (p.1, p.2) (
    let piece = c.args.piece.now in
    let end = c.args.end in
    first_fault c.args.op c.args.key.now [] (take end piece) (drop (end + 1) piece) piece c.in-Ok.line.items c.in_err-reply.field-0.0 c.line_said.new.progress _
    c.requires.cut c.in-Ok.ensures.items c.in_err-reply.ensures)

pub returns : goal.returns
returns c =
    let piece = c.args.piece.now in
    let end = c.args.end in (
      omega arith,
      omega (arith, c.requires.within),
      first_step c.args.op c.args.key.now piece c.in-Ok.line.items end c.in_ok-reply.reply _ c.in-Ok.ensures.items c.requires.taken c.in_ok-reply.ensures,
    )
