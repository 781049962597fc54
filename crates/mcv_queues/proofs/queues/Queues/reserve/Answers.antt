use Rattle.std.proofs.Common.{ap}
use Rattle.std.specs.Prelude.{option_map}
use Rattle.mcv_queues.specs.Rows.{at}
use Rattle.mcv_queues.specs.Roots.{root_of, flights, known}
use Rattle.mcv_queues.proofs.QueuesStaySound
use Rattle.mcv_queues.proofs.queues.Queues.reserve.Goals as goal

pub invariant_of-self : goal.invariant_of-self
invariant_of-self g c = let q = c.args.self.now in record { sound = QueuesStaySound.same_rows (at q.rows) (at c.reserve.new.self) (root_of q.roots) (flights q.roots) (known q.roots) c.reserve.ensures.at q.sound }

pub returns-clause-legs : goal.returns-clause-legs
returns-clause-legs g c = ap (λ f n. option_map (λ r. r.leg) (f n)) c.reserve.ensures.at
