use Rattle.std.proofs.Common.{◌∙◌, ap}
use Rattle.std.proofs.lemmas.Result.{err_from_is_err_and}
use Rattle.mcv_route.specs.Routes.{RoutesValue}
use Rattle.mcv_witness.specs.Finding.{finding_of}
use Rattle.mcv_witness.specs.Text.{finding_text}
use Rattle.mcv_verdict.proofs.run.judge_routes.Goals as goal

pub returns-in-Covered-clause-judged : goal.returns-in-Covered-clause-judged
returns-in-Covered-clause-judged c = rw c.in-Covered.is at c.in_ok-accepted.ensures.judged

pub returns-in_err-finding_text-in-Lost-clause-fault : goal.returns-in_err-finding_text-in-Lost-clause-fault
returns-in_err-finding_text-in-Lost-clause-fault c =
    let gone = err_from_is_err_and c.from_residual-in_err-finding_text-in-Lost.result c.from_residual-in_err-finding_text-in-Lost.ensures.1 in
    rw (gone.1) (gone.2)

pub returns-in_ok-finding_text-in-Lost-clause-judged : goal.returns-in_ok-finding_text-in-Lost-clause-judged
returns-in_ok-finding_text-in-Lost-clause-judged c =
    let judged = rw c.in-Lost.is at c.in_ok-accepted.ensures.judged in
    let finding = finding_of c.in-Lost.finding in
    (finding, judged.1, c.in_ok-finding_text-in-Lost.ensures ∙ ap (λ (r : RoutesValue). finding_text r finding) judged.0)
