use Rattle.std.proofs.Common.{None, refl}
use Rattle.mcv_base.specs.declared.reply.FixedReply.TheVariants.{Lost}
use Rattle.mcv_base.specs.Reply.{fixed_value}
use Rattle.mcv_core.specs.CoreView.{change_move, lost_too_at}
use Rattle.mcv_core.specs.View.{core_view}
use Rattle.mcv_core.proofs.LegEventsAreMoves
use Rattle.mcv_core.proofs.Landings
use Rattle.mcv_core.proofs.dispatcher.Dispatcher.lost_too.Goals as goal

pub lose-requires : goal.lose-requires
lose-requires c = record { at = c.in-Ok.ensures.at; flies = c.in-Ok.ensures.flies }

pub returns-in-Ok : goal.returns-in-Ok
returns-in-Ok c =
    let d = c.args.self.now in
    let n = c.args.leg.0 in
    let effect = Landings.effect_of (lost_too_at (core_view d) n) (core_view d) (core_view c.lose.new.self) c.lose.result c.lose.ensures in
    record { move = change_move n (fixed_value Lost) c.lose.result.change; event = record { effect = effect; move = refl; does = LegEventsAreMoves.lost_too_does (core_view d) (core_view c.lose.new.self) n c.lose.result d.sound.core effect } }

pub returns-in-Err : goal.returns-in-Err
returns-in-Err c = record { move = None; event = record { effect = Landings.lost_too_refused c.args.self.now c.args.leg.0 c.in-Err.fault c.in-Err.ensures.refused.1 c.in-Err.ensures.refused.0; move = refl; does = tt } }
