use Rattle.mcv_clients.proofs.asking.Asking.turn.Goals as goal

pub invariant_of-self : goal.invariant_of-self
invariant_of-self g c = λ number request is_open. c.self.invariant number request (c.turn.ensures.none_opens number request is_open)
