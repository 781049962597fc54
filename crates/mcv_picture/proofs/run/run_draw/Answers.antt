use Rattle.std.proofs.Common.{None, IfSome, sym, subst}
use Rattle.std.proofs.lemmas.Option.{IfSome_then}
use Rattle.std.proofs.lemmas.Result.{err_from_is_err_and}
use Rattle.mcv_input.specs.declared.fault.RunFault.{RunFault}
use Rattle.mcv_verdict.specs.Fault.{IsRunFault}
use Rattle.mcv_verdict.proofs.PartFaults.{input_fault_so, refused_for}
use Rattle.mcv_picture.proofs.Verdicts.{drawn_known}
use Rattle.mcv_picture.proofs.run.run_draw.Goals as goal

pub returns-in_err-routes-clause-fault : goal.returns-in_err-routes-clause-fault
returns-in_err-routes-clause-fault g c =
    let known = g.R.Read.remaining c.args.reader.now in
    let gone = err_from_is_err_and c.from_residual.result c.from_residual.ensures.1 in
    rw (gone.1)
    (subst (λ (fault : RunFault). IfSome known (λ input. IsRunFault input c.args.window None fault)) (sym gone.2)
    (IfSome_then known c.in_err-routes.ensures.fault (λ input is. input_fault_so input c.args.window None c.in_err-routes.field-0.0 is)))

pub returns-in_err-drawn-clause-fault : goal.returns-in_err-drawn-clause-fault
returns-in_err-drawn-clause-fault g c =
    let known = g.R.Read.remaining c.args.reader.now in
    let gone = err_from_is_err_and c.from_residual-in_err-drawn.result c.from_residual-in_err-drawn.ensures.1 in
    rw (gone.1)
    (subst (λ (fault : RunFault). IfSome known (λ input. IsRunFault input c.args.window None fault)) (sym gone.2)
    (IfSome_then known c.in_ok-routes.ensures.named (λ input named. refused_for input c.args.window c.in_ok-routes.routes None c.in_err-drawn.field-0.0 c.in_err-drawn.ensures.fault named)))

pub returns-clause-ok : goal.returns-clause-ok
returns-clause-ok g c =
    let drawn = c.in_ok-drawn.drawn in (
      c.as_slice.result.now,
      drawn_known (g.R.Read.remaining c.args.reader.now) c.args.is_dot c.args.window c.in_ok-routes.routes c.within.result drawn.verdict drawn.text.items c.as_slice.result.now c.in_ok-routes.ensures.named
          c.within.ensures c.in_ok-drawn.ensures.drawn c.as_slice.ensures.value,
      c.in_ok-write_text.ensures.written,
    )
