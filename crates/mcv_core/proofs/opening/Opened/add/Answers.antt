use Rattle.std.proofs.Common.{◌∙◌, None, Some, ap}
use Rattle.mcv_queues.specs.declared.leg.Leg.{Leg}
use Rattle.mcv_queues.specs.declared.leg.State.TheVariants.{Waiting}
use Rattle.mcv_queues.specs.Legs.{is_in_flight, with_stored}
use Rattle.mcv_queues.specs.Queues.{legs}
use Rattle.mcv_world.proofs.Numbers.{put_same}
use Rattle.mcv_core.specs.declared.errand.Errand.{Errand}
use Rattle.mcv_core.proofs.OpenedCores.{put_spooled}
use Rattle.mcv_core.proofs.opening.Opened.add.Goals as goal

pub spooled-requires : goal.spooled-requires
spooled-requires c =
    let new : Leg Errand = record { server = c.args.server; state = Waiting; «record» = None; content = c.args.errand } in
    ap is_in_flight (ap (λ g. g c.args.self.now.count) c.push.ensures.legs ∙ put_same (legs c.args.self.now.queues) c.args.self.now.count (Some new))

pub returns-clause-legs : goal.returns-clause-legs
returns-clause-legs c =
    let new : Leg Errand = record { server = c.args.server; state = Waiting; «record» = None; content = c.args.errand } in
    c.spooled.ensures.legs ∙ ap (λ g. with_stored g c.args.self.now.count c.args.seq) c.push.ensures.legs ∙ put_spooled (legs c.args.self.now.queues) c.args.self.now.count c.args.seq new
