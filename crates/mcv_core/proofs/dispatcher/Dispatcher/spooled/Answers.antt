use Rattle.std.proofs.Common.{◌≡◌, ◌∙◌, sym, ap, subst, true, false, refl, rules, None, option_map}
use Rattle.mcv_queues.specs.Queues.{legs}
use Rattle.mcv_queues.specs.declared.leg.State.TheVariants as states
use Rattle.mcv_world.specs.Moves.{is_one}
use Rattle.mcv_base.specs.Reply.{not_found}
use Rattle.mcv_core.specs.CoreView.{HasDone, at_row, change_move, is_record, stores}
use Rattle.mcv_core.specs.Facts.{facts_of}
use Rattle.mcv_core.specs.Rows.{state_of}
use Rattle.mcv_core.specs.declared.fault.CoreFault.TheVariants.{NoSuchLeg}
use Rattle.mcv_core.specs.View.{core_view}
use Rattle.mcv_core.proofs.LegEventsAreMoves
use Rattle.mcv_core.proofs.Landings
use Rattle.mcv_core.proofs.dispatcher.Dispatcher.spooled.Goals as goal

pub returns-in-Held : goal.returns-in-Held
returns-in-Held c =
    let d = c.args.self.now in
    let n = c.args.leg.0 in
    let seq = c.args.stored.seq in
    let text = c.args.stored.«record».server in
    let rest = c.args.stored.«record».rest in
    let l = Landings.seen (legs d.queues n) c.in-Some.facts (sym c.facts.ensures ∙ c.in-Some.is) in
    let state : l.leg.state ≡ states.Held = ap (λ f. f.state) l.is ∙ c.in-Held.is in
    let its : is_one ((core_view d).rows.legs n) (is_record (core_view d) n text rest) ≡ true = search rules in
    let done = subst (λ q. HasDone (at_row (stores (core_view d) n q) ((core_view d).rows.legs n)) (core_view c.store_held.new.self) c.store_held.result) c.seq.ensures c.store_held.ensures in
    let effect = Landings.storing_effect d n l.leg l.at (ap state_of state) seq text rest its (core_view c.store_held.new.self) c.store_held.result done in
    record {
      move = change_move n not_found c.store_held.result.change;
      event = record { effect = effect; move = refl; does = LegEventsAreMoves.spooling_does (core_view d) (core_view c.store_held.new.self) n seq text rest c.store_held.result d.sound.core effect };
    }

pub returns-in-Refused : goal.returns-in-Refused
returns-in-Refused c =
    let d = c.args.self.now in
    let n = c.args.leg.0 in
    let seq = c.args.stored.seq in
    let text = c.args.stored.«record».server in
    let rest = c.args.stored.«record».rest in
    let l = Landings.seen (legs d.queues n) c.in-Some.facts (sym c.facts.ensures ∙ c.in-Some.is) in
    let state : l.leg.state ≡ states.Refused = ap (λ f. f.state) l.is ∙ c.in-Refused.is in
    let its : is_one ((core_view d).rows.legs n) (is_record (core_view d) n text rest) ≡ true = search rules in
    let done = subst (λ q. HasDone (at_row (stores (core_view d) n q) ((core_view d).rows.legs n)) (core_view c.store_refused.new.self) c.store_refused.result) c.seq-in-Refused.ensures c.store_refused.ensures in
    let effect = Landings.storing_effect d n l.leg l.at (ap state_of state) seq text rest its (core_view c.store_refused.new.self) c.store_refused.result done in
    record {
      move = change_move n not_found c.store_refused.result.change;
      event = record { effect = effect; move = refl; does = LegEventsAreMoves.spooling_does (core_view d) (core_view c.store_refused.new.self) n seq text rest c.store_refused.result d.sound.core effect };
    }

pub returns-then-not-is_record_of : goal.returns-then-not-is_record_of
returns-then-not-is_record_of c =
    let d = c.args.self.now in
    let n = c.args.leg.0 in
    let text = c.args.stored.«record».server in
    let rest = c.args.stored.«record».rest in
    let other : is_one ((core_view d).rows.legs n) (is_record (core_view d) n text rest) ≡ false = search rules in
    record { move = None; event = record { effect = Landings.spooling_refused d n c.args.stored.seq text rest NoSuchLeg other refl; move = refl; does = tt } }

pub returns-in_default : goal.returns-in_default
returns-in_default c =
    let d = c.args.self.now in
    let n = c.args.leg.0 in
    let none : option_map facts_of (legs d.queues n) ≡ None = sym c.facts.ensures ∙ c.in_default.is in
    record { move = None; event = record { effect = Landings.spooling_absent d n c.args.stored.seq c.args.stored.«record».server c.args.stored.«record».rest NoSuchLeg (Landings.unseen (legs d.queues n) none) refl; move = refl; does = tt } }

-- it isn't held
pub returns-in-Waiting : goal.returns-in-Waiting
returns-in-Waiting c =
    let d = c.args.self.now in
    let n = c.args.leg.0 in
    let l = Landings.seen (legs d.queues n) c.in-Some.facts (sym c.facts.ensures ∙ c.in-Some.is) in
    let idle = ap (λ f. Landings.holds f.state) l.is ∙ Landings.not_holding c.in-Some.facts.state c.in-Waiting.is in
    let effect = Landings.spooling_not_held d n l.leg l.at (Landings.unheld l.leg.state idle) c.args.stored.seq c.args.stored.«record».server c.args.stored.«record».rest NoSuchLeg refl in
    record { move = None; event = record { effect = effect; move = refl; does = tt } }
