use Rattle.std.proofs.Common.{◌≡◌, ◌∙◌, None, refl, sym, ap}
use Rattle.mcv_base.specs.Reply.{part_value}
use Rattle.mcv_queues.specs.Legs.{is_flight}
use Rattle.mcv_queues.specs.Marks.{answered_mark, marks}
use Rattle.mcv_queues.specs.Queues.{legs}
use Rattle.mcv_world.specs.Moves.{counted_as}
use Rattle.mcv_core.specs.Errands.{launch_of}
use Rattle.mcv_core.specs.View.{core_view}
use Rattle.mcv_core.proofs.LegEventsAreMoves
use Rattle.mcv_core.proofs.Landings
use Rattle.mcv_core.proofs.LegViews
use Rattle.mcv_core.specs.CoreView.{change_move}
use Rattle.mcv_core.proofs.dispatcher.Dispatcher.answered.Goals as goal

pub land-requires : goal.land-requires
land-requires c = record { at = c.in-Ok.ensures.at; flies = c.in-Ok.ensures.flies; one = c.of-counted.ensures.taken ∙ sym c.of-counted.ensures.outcome }

pub returns-in-Ok : goal.returns-in-Ok
returns-in-Ok c =
    let d = c.args.self.now in
    let n = c.args.leg.0 in
    let l = Landings.seen (legs d.queues n) c.in-Ok.facts c.in-Ok.ensures.at in
    let server : c.in-Ok.facts.server.0 ≡ (launch_of l.leg.content).server.0 = ap (λ f. f.server.0) (sym l.is) ∙ ap (λ v. v.0) (LegViews.server_is d n l.leg l.at) in
    let effect =
    Landings.answered_effect d n l.leg l.at (ap (λ f. is_flight f.state) l.is ∙ c.in-Ok.ensures.flies) c.args.parts (part_value c.of-counted.result.outcome)
    (c.of-counted.ensures.outcome ∙ ap (λ f. counted_as f.op c.args.parts) (sym l.is)) (record (core_view d) { marks = marks c.answered.new.self }) (core_view c.land.new.self) c.land.result
    (Landings.marked_view d c.answered.new.self c.in-Ok.facts.server.0 (launch_of l.leg.content).server.0 answered_mark c.answered.ensures.marks server) c.land.ensures in
    record { move = change_move n c.args.parts c.land.result.change; event = record { effect = effect; move = refl; does = LegEventsAreMoves.answer_does (core_view d) (core_view c.land.new.self) n c.args.parts c.land.result d.sound.core effect } }

pub returns-in-Err : goal.returns-in-Err
returns-in-Err c = record { move = None; event = record { effect = Landings.answer_refused c.args.self.now c.args.leg.0 c.args.parts c.in-Err.fault c.in-Err.ensures.refused.1 c.in-Err.ensures.refused.0; move = refl; does = tt } }
