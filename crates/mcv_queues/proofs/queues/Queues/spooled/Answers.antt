use Rattle.std.proofs.Common.{◌∙◌, ap, refl}
use Rattle.mcv_queues.specs.Legs.{recorded_as, with_record}
use Rattle.mcv_queues.specs.Rows.{links, legs}
use Rattle.mcv_queues.specs.Roots.{root_of, flights, known}
use Rattle.mcv_queues.proofs.UnseenChanges
use Rattle.mcv_queues.proofs.queues.Queues.spooled.Goals as goal

pub invariant_of-self : goal.invariant_of-self
invariant_of-self g c =
    let q = c.settle.new.self in
    record { sound = UnseenChanges.sound (recorded_as c.args.seq) (record { server = λ l. refl; state = λ l. refl }) (legs q.rows) (legs c.set_record.new.self) (links q.rows) (links c.set_record.new.self) (root_of q.roots) (flights q.roots) (known q.roots) c.args.leg.0 c.set_record.ensures.legs c.set_record.ensures.links q.sound }

pub returns-clause-legs : goal.returns-clause-legs
returns-clause-legs g c = c.set_record.ensures.legs ∙ ap (λ f. with_record f c.args.leg.0 c.args.seq) c.settle.ensures.legs ∙ UnseenChanges.stored (legs c.args.self.now.rows) c.args.leg.0 c.args.seq
