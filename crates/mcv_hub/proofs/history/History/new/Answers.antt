use Rattle.mcv_hub.proofs.AddedWeights.{none_counted}
use Rattle.mcv_hub.proofs.history.History.new.Goals as goal

pub invariant_of-result : goal.invariant_of-result
invariant_of-result c = let n = none_counted c.in_ok-entries.entries.items c.in_ok-entries.ensures.items in record { began_is = n.0; taken_is = n.1; bytes_is = n.2 }
