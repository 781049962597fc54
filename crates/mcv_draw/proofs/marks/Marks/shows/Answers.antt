use Rattle.std.proofs.Common.{◌∙◌, ap}
use Rattle.mcv_draw.specs.Marks.{leads_to}
use Rattle.mcv_draw.proofs.marks.Marks.shows.Goals as goal

pub returns : goal.returns
returns c = c.lead_to.ensures ∙ ap (leads_to c.args.self.now.shown.positions.items) c.steps.ensures
