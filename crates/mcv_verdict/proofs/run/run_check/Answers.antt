use Rattle.std.proofs.Common.{List, ℕ, Option, IfSome, option_map, sym, subst}
use Rattle.std.proofs.lemmas.Option.{IfSome_then}
use Rattle.std.proofs.lemmas.Result.{err_from_is_err_and}
use Rattle.mcv_route.specs.Routes.{RoutesValue}
use Rattle.mcv_verdict.specs.Fault.{IsRefusedFor, IsRunFault}
use Rattle.mcv_verdict.specs.Verdict.{IsVerdictFor}
use Rattle.mcv_input.specs.declared.fault.RunFault.{RunFault}
use Rattle.mcv_verdict.proofs.PartFaults.{input_fault_so, refused_for}
use Rattle.mcv_verdict.proofs.run.run_check.Goals as goal

pub returns-in_err-routes-clause-fault : goal.returns-in_err-routes-clause-fault
returns-in_err-routes-clause-fault g c =
    let known = g.R.Read.remaining c.args.reader.now in
    let given : Option (List ℕ) = option_map (λ s. s.now) c.args.certificate in
    let gone = err_from_is_err_and c.from_residual.result c.from_residual.ensures.1 in
    rw (gone.1)
    (subst (λ (fault : RunFault). IfSome known (λ input. IsRunFault input c.args.window given fault)) (sym gone.2)
    (IfSome_then known c.in_err-routes.ensures.fault (λ input is. input_fault_so input c.args.window given c.in_err-routes.field-0.0 is)))

pub returns-in_err-output-clause-fault : goal.returns-in_err-output-clause-fault
returns-in_err-output-clause-fault g c =
    let known = g.R.Read.remaining c.args.reader.now in
    let given : Option (List ℕ) = option_map (λ s. s.now) c.args.certificate in
    let gone = err_from_is_err_and c.from_residual-in_err-output.result c.from_residual-in_err-output.ensures.1 in
    rw (gone.1)
    (subst (λ (fault : RunFault). IfSome known (λ input. IsRunFault input c.args.window given fault)) (sym gone.2)
    (IfSome_then known c.in_ok-routes.ensures.named (λ input named. refused_for input c.args.window c.in_ok-routes.routes given c.in_err-output.field-0.0 (subst (λ (r : RoutesValue). IsRefusedFor r given c.in_err-output.field-0.0) c.within.ensures c.in_err-output.ensures.fault) named)))

pub returns-clause-ok : goal.returns-clause-ok
returns-clause-ok g c =
    let given : Option (List ℕ) = option_map (λ s. s.now) c.args.certificate in
    let output = c.in_ok-output.output in (
      c.as_slice.result.now,
      IfSome_then (g.R.Read.remaining c.args.reader.now) c.in_ok-routes.ensures.named (λ input named. (
        c.in_ok-routes.routes,
        named,
        subst (λ (r : RoutesValue). IsVerdictFor r given output.verdict c.as_slice.result.now) c.within.ensures (subst (λ (text : List ℕ). IsVerdictFor c.within.result given output.verdict text) (sym c.as_slice.ensures.value) c.in_ok-output.ensures.output),
      )),
      c.in_ok-write_text.ensures.written,
    )
