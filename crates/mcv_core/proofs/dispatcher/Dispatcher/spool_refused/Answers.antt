use Rattle.std.proofs.Common.{◌≡◌, ◌∙◌, sym, ap, refl, None, option_map}
use Rattle.mcv_base.specs.declared.reply.FixedReply.TheVariants.{Lost}
use Rattle.mcv_base.specs.Reply.{fixed_value}
use Rattle.mcv_queues.specs.Queues.{legs}
use Rattle.mcv_core.specs.CoreView.{change_move}
use Rattle.mcv_core.specs.Facts.{facts_of}
use Rattle.mcv_core.specs.View.{core_view}
use Rattle.mcv_core.specs.declared.fault.CoreFault.TheVariants.{NoSuchLeg}
use Rattle.mcv_core.proofs.LegEventsAreMoves
use Rattle.mcv_core.proofs.Landings
use Rattle.mcv_core.proofs.dispatcher.Dispatcher.spool_refused.Goals as goal

pub returns-in-Held : goal.returns-in-Held
returns-in-Held c =
    let d = c.args.self.now in
    let n = c.args.leg.0 in
    let l = Landings.seen (legs d.queues n) c.in-Some.facts (sym c.facts.ensures ∙ c.in-Some.is) in
    let effect = Landings.refusing_effect d n l.leg l.at (ap (λ f. f.state) l.is ∙ c.in-Held.is) (core_view c.refuse.new.self) c.refuse.result c.refuse.ensures in
    record {
      move = change_move n (fixed_value Lost) c.refuse.result.change;
      event = record { effect = effect; move = refl; does = LegEventsAreMoves.refusing_does (core_view d) (core_view c.refuse.new.self) n c.refuse.result d.sound.core effect };
    }

pub returns-in-Refused : goal.returns-in-Refused
returns-in-Refused c =
    let d = c.args.self.now in
    let n = c.args.leg.0 in
    let l = Landings.seen (legs d.queues n) c.in-Some.facts (sym c.facts.ensures ∙ c.in-Some.is) in
    record { move = None; event = record { effect = Landings.refusing_again d n l.leg l.at (ap (λ f. f.state) l.is ∙ c.in-Refused.is); move = refl; does = record { world = refl; core = d.sound.core; routes = refl } } }

pub returns-in_default : goal.returns-in_default
returns-in_default c =
    let d = c.args.self.now in
    let n = c.args.leg.0 in
    let none : option_map facts_of (legs d.queues n) ≡ None = sym c.facts.ensures ∙ c.in_default.is in
    record { move = None; event = record { effect = Landings.refusing_absent d n NoSuchLeg (Landings.unseen (legs d.queues n) none) refl; move = refl; does = tt } }

-- it isn't held
pub returns-in-Waiting : goal.returns-in-Waiting
returns-in-Waiting c =
    let d = c.args.self.now in
    let n = c.args.leg.0 in
    let l = Landings.seen (legs d.queues n) c.in-Some.facts (sym c.facts.ensures ∙ c.in-Some.is) in
    let idle = ap (λ f. Landings.holds f.state) l.is ∙ Landings.not_holding c.in-Some.facts.state c.in-Waiting.is in
    record { move = None; event = record { effect = Landings.refusing_not_held d n l.leg l.at (Landings.unheld l.leg.state idle) NoSuchLeg refl; move = refl; does = tt } }
