use Rattle.std.proofs.Common.{refl}
use Rattle.mcv_queues.specs.Legs.{containing}
use Rattle.mcv_queues.specs.Rows.{links, legs}
use Rattle.mcv_queues.specs.Roots.{root_of, flights, known}
use Rattle.mcv_queues.proofs.UnseenChanges
use Rattle.mcv_queues.proofs.queues.Queues.set_content.Goals as goal

pub invariant_of-self : goal.invariant_of-self
invariant_of-self g c =
    let q = c.args.self.now in
    record { sound = UnseenChanges.sound (containing c.args.content) (record { server = λ l. refl; state = λ l. refl }) (legs q.rows) (legs c.set_content.new.self) (links q.rows) (links c.set_content.new.self) (root_of q.roots) (flights q.roots) (known q.roots) c.args.leg.0 c.set_content.ensures.legs c.set_content.ensures.links q.sound }
