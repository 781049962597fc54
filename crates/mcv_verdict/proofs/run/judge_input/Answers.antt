use Rattle.std.proofs.Common.{None, IfSome, sym, subst}
use Rattle.std.proofs.lemmas.Option.{IfSome_then}
use Rattle.std.proofs.lemmas.Result.{err_from_is_err_and}
use Rattle.mcv_input.specs.declared.fault.RunFault.{RunFault}
use Rattle.mcv_verdict.specs.Fault.{IsRunFault}
use Rattle.mcv_verdict.proofs.PartFaults.{input_fault_so}
use Rattle.mcv_verdict.proofs.run.judge_input.Goals as goal

pub returns-in_err-routes-clause-fault : goal.returns-in_err-routes-clause-fault
returns-in_err-routes-clause-fault g c =
    let known = g.R.Read.remaining c.args.reader.now in
    let gone = err_from_is_err_and c.from_residual.result c.from_residual.ensures.1 in
    rw (gone.1)
    (subst (λ (fault : RunFault). IfSome known (λ input. IsRunFault input c.args.window None fault)) (sym gone.2)
    (IfSome_then known c.in_err-routes.ensures.fault (λ input is. input_fault_so input c.args.window None c.in_err-routes.field-0.0 is)))
