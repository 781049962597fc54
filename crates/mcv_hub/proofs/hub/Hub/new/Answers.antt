use Rattle.std.proofs.Common.{ap, sym}
use Rattle.mcv_core.specs.CoreView.{CoreView}
use Rattle.mcv_hub.proofs.hub.Hub.new.Goals as goal

pub invariant_of-hub : goal.invariant_of-hub
invariant_of-hub g c = sym (ap (λ (v : CoreView). v.routes) c.requires.opened)
