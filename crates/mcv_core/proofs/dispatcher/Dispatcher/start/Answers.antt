use Rattle.std.proofs.Common.{◌≡◌, length, subst, rules, arith}
use Rattle.std.specs.Arc.{arc_value}
use Rattle.mcv_base.specs.Key.{IsRest}
use Rattle.mcv_route.specs.Routes.{IsSoundRoutes}
use Rattle.mcv_core.specs.View.{core_view}
use Rattle.mcv_core.proofs.BegunCalls
use Rattle.mcv_core.proofs.dispatcher.Dispatcher.start.Goals as goal

pub add-requires : goal.add-requires
add-requires c =
    let d = c.args.self.now in
    let d2 = c.make_room.new.self in
    let routes : c.routes.result.now ≡ arc_value d2.accepted = search rules in
    let rest : c.deref-2.result.now ≡ arc_value c.args.asked.rest = search rules in
    let count : c.len.result ≡ length c.args.launches.items = search rules in
    let room = c.in_ok-make_room.ensures.legs in
    BegunCalls.can_add_then d d2 c.args.asked c.args.state c.args.launches.items c.in_ok-call.call c.requires.can c.make_room.ensures.accepted c.make_room.ensures.since c.make_room.ensures.counts c.make_room.ensures.next_call
    c.make_room.ensures.next_leg c.make_room.ensures.entries (subst IsSoundRoutes routes c.routes_are_sound.ensures) (subst IsRest rest c.rest_is_sound.ensures) c.in_ok-call.ensures c.in_ok-make_room.ensures.calls (omega (arith, room, count))

pub returns-clause-view : goal.returns-clause-view
returns-clause-view c =
    let d = c.args.self.now in
    let d2 = c.make_room.new.self in
    BegunCalls.has_begun_as d d2 c.args.asked c.args.state c.args.launches.items c.in_ok-call.call (core_view c.add.new.self) d2.next_call d2.since c.make_room.ensures.view c.in_ok-call.ensures c.add.ensures.view
    (BegunCalls.planned_start d c.args.asked c.args.state c.args.launches.items c.requires.can) c.requires.can.fits

pub returns-clause-moves : goal.returns-clause-moves
returns-clause-moves c =
    let d = c.args.self.now in
    let d2 = c.make_room.new.self in
    BegunCalls.moved_as d d2 c.args.asked c.args.state c.args.launches.items c.in_ok-call.call (core_view c.add.new.self) d2.next_call d2.since c.make_room.ensures.view c.in_ok-call.ensures c.add.ensures.moves
