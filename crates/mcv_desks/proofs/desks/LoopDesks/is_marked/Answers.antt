use Rattle.std.proofs.Common.{◌∙◌, ap}
use Rattle.mcv_turn.specs.Shown.{is_known_marked}
use Rattle.mcv_desks.specs.Open.{DesksView, servers_of}
use Rattle.mcv_desks.proofs.desks.LoopDesks.is_marked.Goals as goal

pub returns : goal.returns
returns g c = c.is_marked.ensures ∙ ap (λ (v : DesksView). is_known_marked (servers_of v c.args.hub) c.args.server) c.self.view_is
