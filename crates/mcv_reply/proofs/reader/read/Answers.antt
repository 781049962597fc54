use Rattle.std.proofs.Common.{◌++◌, length, take, ap, sym, ◌∙◌}
use Rattle.std.proofs.lemmas.Bool.{eqb-true, eqb-false}
use Rattle.std.proofs.lemmas.List.{take_rest}
use Rattle.std.proofs.lemmas.Result.{err_from_is_err_and}
use Rattle.mcv_reply.proofs.Steps.{step_fault, step_reply, step_more, step_none, step_rest}
use Rattle.mcv_reply.proofs.reader.read.Goals as goal

pub returns-in_err-used : goal.returns-in_err-used
returns-in_err-used c = let p = err_from_is_err_and c.from_residual.result c.from_residual.ensures.1 in rw (p.1, p.2) (λ bytes e.
    let f = c.loop-left.invariant.fed in
    step_fault c.args.op c.args.key.now f.0 c.loop-left.left.now _ c.in_err-used.field-0.0 c.take_step.new.progress c.take_step.new.progress (f.2 bytes e) (c.in_err-used.ensures.steps f.0 f.1))

pub returns-then-is_empty : goal.returns-then-is_empty
returns-then-is_empty c = λ bytes e.
    let f = c.loop-left.invariant.fed in
    step_reply c.args.op c.args.key.now f.0 c.loop-left.left.now _ c.in_ok-used.field-0.used c.in_ok-used.field-0.reply c.in-Some.reply c.take_step.new.progress (c.in_ok-used.ensures.steps f.0 f.1).2 c.in-Some.is (sym (ap length (take_rest c.loop-left.left.now c.in_ok-used.field-0.used)) ∙ eqb-true _ 0 (sym c.is_empty-in-Some.ensures ∙ c.if-is_empty.true)) (f.2 bytes e)

pub returns-else-is_empty : goal.returns-else-is_empty
returns-else-is_empty c = λ bytes e.
    let f = c.loop-left.invariant.fed in
    step_more c.args.op c.args.key.now f.0 c.loop-left.left.now _ c.in_ok-used.field-0.used c.in_ok-used.field-0.reply c.in-Some.reply c.take_step.new.progress c.requires.clean (c.in_ok-used.ensures.steps f.0 f.1).2 c.in-Some.is (λ z. eqb-false _ 0 (sym c.is_empty-in-Some.ensures ∙ c.if-is_empty.false) (ap length (take_rest c.loop-left.left.now c.in_ok-used.field-0.used) ∙ z)) (f.2 bytes e)

pub loop-left-preserved : goal.loop-left-preserved
loop-left-preserved c =
    let f = c.loop-left.invariant.fed in
    let left = c.loop-left.left.now in
    let used = c.in_ok-used.field-0.used in
    let made = step_none c.args.op c.args.key.now f.0 left used c.in_ok-used.field-0.reply c.take_step.new.progress (c.in_ok-used.ensures.steps f.0 f.1).2 c.in_default.is in
    record {
      at = made.0;
      fed = (f.0 ++ take used left, made.1, λ bytes e. ap (λ t. (f.0 ++ take used left) ++ t) (take_rest left used) ∙ step_rest f.0 left _ used (f.2 bytes e));
    }
