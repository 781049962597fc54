use Rattle.std.proofs.Common.{◌≡◌, ◌∙◌, List, ℕ, ap, subst}
use Rattle.mcv_draw.specs.Marks.{MarksValue}
use Rattle.mcv_route.specs.Routes.{RoutesValue}
use Rattle.mcv_verdict.specs.Text.{covered_line}
use Rattle.mcv_picture.specs.Drawing.{IsDrawnWith, certificate_marks}
use Rattle.mcv_picture.proofs.drawing.covered_drawing.Goals as goal

pub returns-clause-text : goal.returns-clause-text
returns-clause-text c =
    let marked : ℕ → MarksValue → Type 0 = λ number m. m ≡ certificate_marks c.args.certificate.now number in
    let said = c.as_slice.ensures.value ∙ (c.in_ok-said.ensures ∙ ap covered_line c.len-pairs.ensures.value) in
    subst (λ (text : List ℕ). IsDrawnWith marked c.args.is_dot c.args.accepted.now text c.in_ok-text.text.items) said
    (subst (λ (r : RoutesValue). IsDrawnWith marked c.args.is_dot r c.as_slice.result.now c.in_ok-text.text.items) c.routes.ensures.value c.in_ok-text.ensures)
