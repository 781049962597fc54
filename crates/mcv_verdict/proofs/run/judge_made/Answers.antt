use Rattle.std.proofs.Common.{◌∙◌, ap, refl, subst, sym}
use Rattle.mcv_symbolic.specs.CoveredRoutes.{AreCovered}
use Rattle.mcv_route.specs.Routes.{RoutesValue}
use Rattle.mcv_verdict.specs.Fault.{of_check}
use Rattle.mcv_verdict.specs.Verdict.{IsJudged}
use Rattle.mcv_verdict.specs.declared.verdict.Judged.{Judged}
use Rattle.mcv_verdict.proofs.run.judge_made.Goals as goal

pub returns-in-Err-clause-fault : goal.returns-in-Err-clause-fault
returns-in-Err-clause-fault c = c.refused.ensures ∙ ap of_check (c.in-Err.ensures.justified c.in-Ok.ensures.justified)

pub returns-in-Ok-check-clause-judged : goal.returns-in-Ok-check-clause-judged
returns-in-Ok-check-clause-judged c =
    let same = c.in-Ok-check.ensures.accepted.0 in
    subst (λ (found : Judged). IsJudged c.args.routes found) (sym c.covered_by.ensures.found) (
      same,
      record {
        covered = subst (λ (r : RoutesValue). AreCovered r) same c.covered_by.ensures.covered;
        justified = c.in-Ok.ensures.justified;
        certificate = c.covered_by.ensures.certificate;
      },
      c.in-Ok.ensures.picked,
    )

pub returns-in-Err-Lost-clause-judged : goal.returns-in-Err-Lost-clause-judged
returns-in-Err-Lost-clause-judged c =
    let is = c.in-Err-Lost.field-0-is in (
      refl,
      record {
        uncovered = rw is at c.in-Err-Lost.ensures.uncovered;
        known = rw is (rw is at c.in-Err-Lost.ensures.known);
        first = rw is (rw is at c.in-Err-Lost.ensures.lost);
        shown = rw is (rw is at c.in-Err-Lost.ensures.shown);
      },
    )
