use Rattle.std.proofs.Common.{◌∙◌, ap}
use Rattle.mcv_draw.specs.Marks.{is_leaf, is_one_of, leads_to, marks_of}
use Rattle.mcv_draw.proofs.MadeOfParts.{marked_made}
use Rattle.mcv_draw.proofs.marks.Marks.at.Goals as goal

pub returns : goal.returns
returns c =
    let marks = c.args.self.now in
    marked_made (marks_of marks) c.args.position.now c.lead_to-deletes.result c.has-is_readable.result c.lead_to-is_shown.result c.loses-is_lost.result
    (c.lead_to-deletes.ensures ∙ ap (leads_to marks.deletes.positions.items) c.steps-steps.ensures) (c.has-is_readable.ensures ∙ ap (is_one_of marks.readable.positions.items) c.steps-steps.ensures)
    (c.lead_to-is_shown.ensures ∙ ap (leads_to marks.shown.positions.items) c.steps-steps.ensures) (c.loses-is_lost.ensures ∙ ap (is_leaf marks.lost) c.steps-steps.ensures)
