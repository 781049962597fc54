use Rattle.mcv_queues.specs.Rows.{at}
use Rattle.mcv_queues.specs.Roots.{root_of, flights, known}
use Rattle.mcv_queues.proofs.QueuesStaySound
use Rattle.mcv_queues.proofs.queues.Queues.new.Goals as goal

pub invariant_of-result : goal.invariant_of-result
invariant_of-result g c = let r = c.in_ok-roots.roots in record { sound = QueuesStaySound.empty (at c.new-2.result) (root_of r) (flights r) (known r) c.new-2.ensures c.in_ok-roots.ensures.roots c.in_ok-roots.ensures.flights }

pub returns-clause-legs : goal.returns-clause-legs
returns-clause-legs g c = QueuesStaySound.no_legs (at c.new-2.result) c.new-2.ensures
