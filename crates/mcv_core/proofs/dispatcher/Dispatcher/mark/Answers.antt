use Rattle.std.proofs.Common.{◌∙◌, None, refl}
use Rattle.mcv_queues.specs.Marks.{checked_mark}
use Rattle.mcv_core.proofs.Landings.{marked_view}
use Rattle.mcv_core.proofs.dispatcher.Dispatcher.mark.Goals as goal

pub invariant_of-self : goal.invariant_of-self
invariant_of-self c = record { sound = c.args.self.now.sound; table = c.mark.ensures.servers ∙ c.args.self.now.table; within = c.args.self.now.within }

pub returns : goal.returns
returns c =
    let d = c.args.self.now in
    record { move = None; event = record { view = marked_view d c.mark.new.self c.args.server.0 c.args.server.0 checked_mark c.mark.ensures.marks refl; none = refl; does = record { world = refl; core = d.sound.core; routes = refl } } }
