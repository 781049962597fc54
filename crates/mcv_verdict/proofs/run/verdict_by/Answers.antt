use Rattle.std.proofs.Common.{refl, sym, subst}
use Rattle.std.proofs.lemmas.Result.{err_from_is_err_and}
use Rattle.mcv_route.specs.Routes.{RoutesValue}
use Rattle.mcv_symbolic.specs.CoveredRoutes.{AreCovered}
use Rattle.mcv_verdict.specs.Fault.{IsRefusedBy}
use Rattle.mcv_verdict.specs.Verdict.{IsVerdictBy}
use Rattle.mcv_verdict.specs.declared.verdict.Verdict.{Verdict}
use Rattle.mcv_input.specs.declared.fault.RunFault.{RunFault}
use Rattle.mcv_verdict.proofs.PartFaults.{check_refused_so, text_refused_so}
use Rattle.mcv_verdict.proofs.run.verdict_by.Goals as goal

pub returns-in_err-certificate-clause-fault : goal.returns-in_err-certificate-clause-fault
returns-in_err-certificate-clause-fault c =
    let gone = err_from_is_err_and c.from_residual.result c.from_residual.ensures.1 in
    rw (gone.1) (subst (λ (fault : RunFault). IsRefusedBy c.args.routes c.args.text.now fault) (sym gone.2)
    (text_refused_so c.args.routes c.args.text.now c.in_err-certificate.field-0.0 c.in_err-certificate.ensures.faulty))

pub returns-clause-fault : goal.returns-clause-fault
returns-clause-fault c =
    subst (λ (fault : RunFault). IsRefusedBy c.args.routes c.args.text.now fault) (sym c.refused.ensures)
    (check_refused_so c.args.routes c.args.text.now c.in_ok-certificate.certificate c.in-Err.fault c.in_ok-certificate.ensures.read c.in-Err.ensures.fault)

pub returns-in-Ok-clause-output : goal.returns-in-Ok-clause-output
returns-in-Ok-clause-output c =
    let routes = c.args.routes in
    let text = c.args.text.now in
    let judged = c.in-Ok.ensures.accepted in
    let output = c.in_ok-covered-in-Ok.field-0 in
    subst (λ (v : Verdict). IsVerdictBy routes text v output.text.items) (sym c.in_ok-covered-in-Ok.ensures.verdict) (
      c.in_ok-certificate.certificate,
      c.in_ok-certificate.ensures.read,
      record { covered = subst (λ (r : RoutesValue). AreCovered r) judged.0 c.covered.ensures.covered; justified = judged.1; certificate = c.covered.ensures.certificate },
      refl,
      c.in_ok-covered-in-Ok.ensures.text,
    )
