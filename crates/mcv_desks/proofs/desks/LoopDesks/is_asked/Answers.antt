use Rattle.std.proofs.Common.{◌∙◌, ap}
use Rattle.mcv_desks.specs.Open.{DesksView, asked_of}
use Rattle.mcv_desks.proofs.desks.LoopDesks.is_asked.Goals as goal

pub returns : goal.returns
returns g c = c.is_asked.ensures ∙ ap (λ (v : DesksView). asked_of v c.args.hub) c.self.view_is
