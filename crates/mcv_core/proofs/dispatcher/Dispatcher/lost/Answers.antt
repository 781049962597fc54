use Rattle.std.proofs.Common.{◌≡◌, ◌∙◌, None, refl, sym, ap}
use Rattle.mcv_queues.specs.Legs.{is_flight}
use Rattle.mcv_queues.specs.Marks.{lost_mark, marks}
use Rattle.mcv_queues.specs.Queues.{legs}
use Rattle.mcv_core.specs.Errands.{launch_of}
use Rattle.mcv_core.specs.View.{core_view}
use Rattle.mcv_core.proofs.LegEventsAreMoves
use Rattle.mcv_core.proofs.Landings
use Rattle.mcv_core.proofs.LegViews
use Rattle.mcv_core.specs.CoreView.{change_move}
use Rattle.mcv_base.specs.declared.reply.FixedReply.TheVariants.{Lost}
use Rattle.mcv_base.specs.Reply.{fixed_value}
use Rattle.mcv_core.proofs.dispatcher.Dispatcher.lost.Goals as goal

pub lose-requires : goal.lose-requires
lose-requires c = record { at = c.in-Ok.ensures.at; flies = c.in-Ok.ensures.flies }

pub returns-in-Ok : goal.returns-in-Ok
returns-in-Ok c =
    let d = c.args.self.now in
    let n = c.args.leg.0 in
    let l = Landings.seen (legs d.queues n) c.in-Ok.facts c.in-Ok.ensures.at in
    let server : c.in-Ok.facts.server.0 ≡ (launch_of l.leg.content).server.0 = ap (λ f. f.server.0) (sym l.is) ∙ ap (λ v. v.0) (LegViews.server_is d n l.leg l.at) in
    let effect =
    Landings.loss_effect d n l.leg l.at (ap (λ f. is_flight f.state) l.is ∙ c.in-Ok.ensures.flies) (record (core_view d) { marks = marks c.lost.new.self })
    (core_view c.lose.new.self) c.lose.result (Landings.marked_view d c.lost.new.self c.in-Ok.facts.server.0 (launch_of l.leg.content).server.0 lost_mark c.lost.ensures.marks server) c.lose.ensures in
    record { move = change_move n (fixed_value Lost) c.lose.result.change; event = record { effect = effect; move = refl; does = LegEventsAreMoves.loss_does (core_view d) (core_view c.lose.new.self) n c.lose.result d.sound.core effect } }

pub returns-in-Err : goal.returns-in-Err
returns-in-Err c = record { move = None; event = record { effect = Landings.loss_refused c.args.self.now c.args.leg.0 c.in-Err.fault c.in-Err.ensures.refused.1 c.in-Err.ensures.refused.0; move = refl; does = tt } }
