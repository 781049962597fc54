use Rattle.std.proofs.Common.{◌≡◌, ◌<◌, subst, true}
use Rattle.std.specs.Prelude.{◌↔◌}
use Rattle.mcv_desks.specs.Open.{DesksView, entering_of}
use Rattle.mcv_desks.proofs.desks.LoopDesks.waits.Goals as goal

pub returns : goal.returns
returns g c = subst (λ (v : DesksView). (c.waits.result ≡ true) ↔ (0 < entering_of v c.args.hub)) c.self.view_is c.waits.ensures
