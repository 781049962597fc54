use Rattle.mcv_clients.proofs.asking.Asking.new.Goals as goal

pub invariant_of-result : goal.invariant_of-result
invariant_of-result g c = λ number request is_open. absurd (c.in_ok-desks.ensures.none number request is_open)
