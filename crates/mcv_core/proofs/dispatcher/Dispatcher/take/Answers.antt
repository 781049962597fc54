use Rattle.std.proofs.Common.{◌≡◌, ◌∙◌, ap, refl, rules, subst, sym, true, false, Option, None}
use Rattle.std.specs.Arc.{arc_value}
use Rattle.std.specs.Prelude.{IfNone, is_some}
use Rattle.mcv_queues.specs.Queues.{legs, room, servers}
use Rattle.mcv_core.specs.declared.take.Taking.{Taking}
use Rattle.mcv_core.specs.Calls.{calls_at}
use Rattle.mcv_core.specs.Soundness.{IsSound}
use Rattle.mcv_core.specs.View.{since_of}
use Rattle.mcv_core.proofs.TakenReplies
use Rattle.mcv_core.proofs.dispatcher.Dispatcher.take.Goals as goal

pub taken-self-requires : goal.taken-self-requires
taken-self-requires c =
    let d = c.args.self.now in
    let k = c.args.call.0 in
    let runs : is_some (calls_at d.calls k) ≡ true = sym c.take.ensures.runs ∙ ap is_some c.in-Some.is in
    let found = TakenReplies.found_of (calls_at d.calls) k runs in
    record {
      reserved = TakenReplies.left_fits d k c.take.new.self c.in-Some.taking c.in-Some.ensures.taken found;
      running = TakenReplies.runs d k c.take.new.self c.in-Some.taking c.in-Some.ensures.taken found;
    }

-- no call has the number
pub invariant_of-self : goal.invariant_of-self
invariant_of-self c =
    let d = c.args.self.now in
    let none : c.take.result ≡ None = search rules in
    let same : calls_at c.take.new.self ≡ calls_at d.calls = subst (λ (o : Option Taking). IfNone o (calls_at c.take.new.self ≡ calls_at d.calls)) none c.take.ensures.none in
    record {
      sound = subst (λ v. IsSound (arc_value d.accepted) v (legs d.queues) (since_of d) d.moment.0 d.next_call d.next_leg d.counts.reserved d.counts.queued d.counts.spooled d.counts.running (room d.queues) (servers d.queues)) (sym same) d.sound;
      table = d.table;
      within = d.within;
    }

pub invariant_of-self-2 : goal.invariant_of-self-2
invariant_of-self-2 c =
    let d = c.args.self.now in
    let k = c.args.call.0 in
    let runs : is_some (calls_at d.calls k) ≡ true = sym c.take.ensures.runs ∙ ap is_some c.in-Some.is in
    let found = TakenReplies.found_of (calls_at d.calls) k runs in
    record {
      sound = TakenReplies.sound_then d k c.take.new.self c.in-Some.taking c.in-Some.ensures.taken found c.remove_if.new.self c.remove_if.ensures c.taken-self.result c.taken-self.ensures.queued c.taken-self.ensures.spooled
          c.taken-self.ensures.reserved c.taken-self.ensures.running;
      table = d.table;
      within = d.within;
    }

pub returns : goal.returns
returns c =
    let d = c.args.self.now in
    let k = c.args.call.0 in
    let runs : is_some (calls_at d.calls k) ≡ true = sym c.take.ensures.runs ∙ ap is_some c.in-Some.is in
    let found = TakenReplies.found_of (calls_at d.calls) k runs in
    TakenReplies.taken_event d c.args.call c.take.new.self c.in-Some.taking c.in-Some.ensures.taken found c.remove_if.new.self c.remove_if.ensures c.in-Some.taking.part refl

-- no such call runs
pub returns-in_default : goal.returns-in_default
returns-in_default c =
    let d = c.args.self.now in
    let k = c.args.call.0 in
    let none : c.take.result ≡ None = search rules in
    let same : calls_at c.take.new.self ≡ calls_at d.calls = subst (λ (o : Option Taking). IfNone o (calls_at c.take.new.self ≡ calls_at d.calls)) none c.take.ensures.none in
    let idle : is_some (calls_at d.calls k) ≡ false = sym c.take.ensures.runs ∙ ap is_some none in
    TakenReplies.untaken_event d c.args.call c.take.new.self same idle
