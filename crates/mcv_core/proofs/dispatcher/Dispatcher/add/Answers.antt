use Rattle.std.proofs.Common.{◌≡◌, ◌∙◌, ◌+◌, ◌-◌, ◌*◌, suc, length, refl, sym, ap, subst, arith, Some}
use Rattle.std.specs.Arc.{arc_value}
use Rattle.std.proofs.Math.Path.{fun_ext}
use Rattle.mcv_queues.specs.Queues.{in_flight, legs, room, servers}
use Rattle.mcv_world.specs.World.{put}
use Rattle.mcv_core.specs.Beginning.{began_by}
use Rattle.mcv_core.specs.Calls.{calls_at}
use Rattle.mcv_core.specs.Facts.{records_in}
use Rattle.mcv_core.specs.CoreView.{Moved}
use Rattle.mcv_core.specs.Rows.{rows_of, state_of}
use Rattle.mcv_core.specs.Soundness.{IsSound}
use Rattle.mcv_core.specs.CallProgress.{fresh}
use Rattle.mcv_core.specs.View.{core_view, since_of}
use Rattle.mcv_core.proofs.BegunCalls
use Rattle.mcv_core.proofs.FlightsStayWithin
use Rattle.mcv_core.proofs.SpoolNumbers
use Rattle.mcv_core.proofs.dispatcher.Dispatcher.add.Goals as goal

pub launch-launched-requires-clause-can : goal.launch-launched-requires-clause-can
launch-launched-requires-clause-can c = BegunCalls.can_launch c.args.self.now c.args.call c.requires

pub launch-launched-requires-clause-left : goal.launch-launched-requires-clause-left
launch-launched-requires-clause-left c = BegunCalls.fresh_within c.args.self.now c.args.call c.requires

pub number_after-self-requires : goal.number_after-self-requires
number_after-self-requires c =
    let within = BegunCalls.fresh_within c.args.self.now c.args.call c.requires in
    let n = c.launch-launched.ensures.count in
    let fit = c.requires.has_room.legs.leg_numbers in
    omega (arith, within, n, fit)

pub begun-self-requires-clause-within : goal.begun-self-requires-clause-within
begun-self-requires-clause-within c = let within = BegunCalls.fresh_within c.args.self.now c.args.call c.requires in let n = c.launch-launched.ensures.count in omega (arith, within, n)

pub begun-self-requires-clause-running : goal.begun-self-requires-clause-running
begun-self-requires-clause-running c = let few = BegunCalls.runs_fit c.args.self.now c.args.call c.requires in let fit = c.requires.has_room.legs.call_numbers in omega (arith, few, fit)

pub invariant_of-self : goal.invariant_of-self
invariant_of-self c =
    let d = c.args.self.now in
    let call = c.args.call in
    let n = c.launch-launched.ensures.count in
    let calls_are : calls_at c.add.new.self ≡ put (calls_at d.calls) d.next_call (Some (record call { entries = c.launch-launched.new.self.entries; left = call.left - length (fresh call.state) })) =
    c.add.ensures ∙ ap (λ v. put (calls_at d.calls) d.next_call (Some v)) c.launch-launched.ensures.same in
    let reserved = c.begun-self.ensures.reserved in
    let queued = c.begun-self.ensures.queued in
    let sound = BegunCalls.sound_begun d call c.requires c.launch-launched.new.self.entries c.launch-launched.new.queues c.launch-launched.ensures.launched c.add.new.self calls_are c.begun-self.result (omega (arith, reserved, n)) (omega (arith, queued, n))
    c.begun-self.ensures.spooled c.begun-self.ensures.running c.launch-launched.ensures.room c.launch-launched.ensures.servers in
    let next : suc d.next_call ≡ d.next_call + 1 = omega arith in
    let number : d.next_leg + length (fresh call.state) ≡ c.number_after-self.result = let e = c.number_after-self.ensures in omega (arith, e, n) in
    record {
      sound = subst (λ k. IsSound (arc_value d.accepted) (calls_at c.add.new.self) (legs c.launch-launched.new.queues) (since_of d) d.moment.0 k c.number_after-self.result c.begun-self.result.reserved c.begun-self.result.queued
          c.begun-self.result.spooled c.begun-self.result.running (room c.launch-launched.new.queues) (servers c.launch-launched.new.queues)) next
          (subst (λ m. IsSound (arc_value d.accepted) (calls_at c.add.new.self) (legs c.launch-launched.new.queues) (since_of d) d.moment.0 (suc d.next_call) m c.begun-self.result.reserved c.begun-self.result.queued
          c.begun-self.result.spooled c.begun-self.result.running (room c.launch-launched.new.queues) (servers c.launch-launched.new.queues)) number sound);
      table = d.table;
      within = FlightsStayWithin.same_within (in_flight d.queues) (in_flight c.launch-launched.new.queues) d.limit d.within c.launch-launched.ensures.flights;
    }

pub returns-clause-view : goal.returns-clause-view
returns-clause-view c =
    let d = c.args.self.now in
    let call = c.args.call in
    let n = c.launch-launched.ensures.count in
    let calls_are : calls_at c.add.new.self ≡ put (calls_at d.calls) d.next_call (Some (record call { entries = c.launch-launched.new.self.entries; left = call.left - length (fresh call.state) })) =
    c.add.ensures ∙ ap (λ v. put (calls_at d.calls) d.next_call (Some v)) c.launch-launched.ensures.same in
    let next : d.next_call + 1 ≡ suc d.next_call = omega arith in
    let number : c.number_after-self.result ≡ d.next_leg + length (fresh call.state) = let e = c.number_after-self.ensures in omega (arith, e, n) in
    let rows = ap (λ k. rows_of (calls_at c.add.new.self) (legs c.launch-launched.new.queues) (since_of d) k c.number_after-self.result) next
    ∙ ap (λ m. rows_of (calls_at c.add.new.self) (legs c.launch-launched.new.queues) (since_of d) (suc d.next_call) m) number
    ∙ BegunCalls.rows_are d call c.requires c.launch-launched.new.self.entries c.launch-launched.new.queues c.launch-launched.ensures.launched c.add.new.self calls_are state_of refl in
    let entries = ap (λ m. d.entries + (2 + 3 * m)) c.requires.unlaunched.left in
    let records = ap records_in c.launch-launched.ensures.launched.legs_are
    ∙ SpoolNumbers.records_launched d.next_leg (fresh call.state) call.entries.items (legs d.queues) (BegunCalls.can_launch d call c.requires).free in
    let flights = fun_ext c.launch-launched.ensures.flights in
    λ j. record (core_view d) { rows = rows j; records = records j; flights = flights j; entries = entries j }

pub returns-clause-moves : goal.returns-clause-moves
returns-clause-moves c = subst (λ v. Moved (core_view c.args.self.now) v (began_by c.args.call)) (sym (returns-clause-view c)) (BegunCalls.moved c.args.self.now c.args.call c.requires)
