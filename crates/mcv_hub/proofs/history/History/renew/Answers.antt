use Rattle.mcv_hub.proofs.AddedWeights.{none_counted}
use Rattle.mcv_hub.proofs.history.History.renew.Goals as goal

pub invariant_of-self : goal.invariant_of-self
invariant_of-self c = let n = none_counted c.emptied.new.entries.items c.emptied.ensures.items in record { began_is = n.0; taken_is = n.1; bytes_is = n.2 }
