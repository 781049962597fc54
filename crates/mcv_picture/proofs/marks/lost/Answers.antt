use Rattle.std.proofs.Common.{◌∙◌, Bool, subst, sym}
use Rattle.std.specs.Prelude.{IfOk}
use Rattle.mcv_draw.specs.Marks.{marks_of}
use Rattle.mcv_witness.specs.Finding.{finding_of}
use Rattle.mcv_picture.specs.Drawing.{ShowsIf}
use Rattle.mcv_picture.proofs.marks.lost.Goals as goal

pub returns-then-is_route_of : goal.returns-then-is_route_of
returns-then-is_route_of c =
    subst (λ (is_own : Bool). IfOk c.found_marks.result (λ marks. ShowsIf is_own c.args.routes.now (finding_of c.args.finding.now) (marks_of marks))) (sym c.if-is_route_of.true ∙ c.is_route_of.ensures)
    c.found_marks.ensures

pub returns : goal.returns
returns c =
    subst (λ (is_own : Bool). ShowsIf is_own c.args.routes.now (finding_of c.args.finding.now) (marks_of c.unmarked.result)) (sym c.if-is_route_of.false ∙ c.is_route_of.ensures) c.unmarked.ensures
