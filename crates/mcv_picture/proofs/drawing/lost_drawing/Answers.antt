use Rattle.std.proofs.Common.{◌∙◌, List, ℕ, subst}
use Rattle.mcv_witness.specs.Finding.{finding_of}
use Rattle.mcv_picture.specs.Drawing.{IsDrawnWith, ShowsFinding}
use Rattle.mcv_picture.proofs.drawing.lost_drawing.Goals as goal

pub returns-clause-text : goal.returns-clause-text
returns-clause-text c =
    let said = c.as_slice.ensures.value ∙ c.in_ok-said.ensures in
    subst (λ (text : List ℕ). IsDrawnWith (ShowsFinding c.args.routes.now (finding_of c.args.finding.now)) c.args.is_dot c.args.routes.now text c.in_ok-text.text.items) said c.in_ok-text.ensures
