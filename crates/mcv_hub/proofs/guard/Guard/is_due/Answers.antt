use Rattle.std.proofs.Common.{◌∙◌, ap}
use Rattle.mcv_hub.specs.Gate.{is_chapter_due}
use Rattle.mcv_hub.proofs.guard.Guard.is_due.Goals as goal

pub returns : goal.returns
returns g c = c.is_due.ensures ∙ ap is_chapter_due (c.deref.ensures ∙ c.self.view_is)
