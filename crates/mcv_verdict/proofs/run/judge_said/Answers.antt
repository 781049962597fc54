use Rattle.std.proofs.Common.{subst, sym}
use Rattle.std.proofs.lemmas.Result.{err_from_is_err_and}
use Rattle.mcv_input.specs.declared.fault.RunFault.{RunFault}
use Rattle.mcv_route.specs.Routes.{RoutesValue}
use Rattle.mcv_symbolic.specs.CoveredRoutes.{AreCovered}
use Rattle.mcv_verdict.specs.Fault.{IsRefusedBy}
use Rattle.mcv_verdict.specs.Verdict.{IsJudgedBy}
use Rattle.mcv_verdict.specs.declared.verdict.Judged.{Judged}
use Rattle.mcv_verdict.proofs.PartFaults.{check_refused_so, text_refused_so}
use Rattle.mcv_verdict.proofs.run.judge_said.Goals as goal

pub returns-in_err-certificate-clause-fault : goal.returns-in_err-certificate-clause-fault
returns-in_err-certificate-clause-fault c =
    let gone = err_from_is_err_and c.from_residual.result c.from_residual.ensures.1 in
    rw (gone.1) (subst (λ (fault : RunFault). IsRefusedBy c.args.routes c.args.text.now fault) (sym gone.2)
    (text_refused_so c.args.routes c.args.text.now c.in_err-certificate.field-0.0 c.in_err-certificate.ensures.faulty))

pub returns-in-Err-clause-fault : goal.returns-in-Err-clause-fault
returns-in-Err-clause-fault c =
    subst (λ (fault : RunFault). IsRefusedBy c.args.routes c.args.text.now fault) (sym c.refused.ensures)
    (check_refused_so c.args.routes c.args.text.now c.in_ok-certificate.certificate c.in-Err.fault c.in_ok-certificate.ensures.read c.in-Err.ensures.fault)

pub returns-in-Ok-clause-judged : goal.returns-in-Ok-clause-judged
returns-in-Ok-clause-judged c =
    let same = c.in-Ok.ensures.accepted.0 in
    subst (λ (found : Judged). IsJudgedBy c.args.routes c.args.text.now found) (sym c.covered_by.ensures.found) (
      same,
      c.in_ok-certificate.ensures.read,
      record {
        covered = subst (λ (r : RoutesValue). AreCovered r) same c.covered_by.ensures.covered;
        justified = c.in-Ok.ensures.accepted.1;
        certificate = c.covered_by.ensures.certificate;
      },
    )
