-- Which parts of a hub may cross threads, each whole, since a `search` that goes down through them runs out of steps.
use denote.RattleType.{RattleType}
use denote.Param.Send.{IsSend, IsSync, sendable}
use Rattle.std.specs.declared.sync.ledger.Ledger.{Ghosts}
use Rattle.mcv_hub.specs.declared.ledger.HubLedger as hubs
use Rattle.std.proofs.Crossing.{crosses}
use Rattle.std.proofs.MapsCrossing as maps
use Rattle.std.proofs.sync.ledger.Book.TheSendSync as book
use Rattle.mcv_base.proofs.key.Prefix.TheSendSync as prefix
use Rattle.mcv_base.proofs.operation.Op.TheSendSync as op
use Rattle.mcv_base.proofs.request.Moment.TheSendSync as moment
use Rattle.mcv_pools.specs.contracts.hash.Fnv as Fnv
use Rattle.mcv_pools.proofs.hash.Fnv.TheSendSync as fnv
use Rattle.mcv_pools.proofs.choice.Choice.TheSendSync as choice
use Rattle.mcv_pools.proofs.servers.Servers.TheSendSync as servers
use Rattle.mcv_pools.proofs.symbols.Symbols.TheSendSync as symbols
use Rattle.mcv_route.proofs.tree.Route.TheLaws.TheKnot as route
use Rattle.mcv_route.specs.contracts.routes.Routes as Routes
use Rattle.mcv_route.specs.contracts.tree.Route as Route
use Rattle.mcv_route.proofs.tree.Leaf.TheSendSync as leaf
use Rattle.mcv_route.specs.contracts.routes.AliasedRoute as Aliased
use Rattle.mcv_plan.proofs.course.Course.TheLaws.TheKnot as course
use Rattle.mcv_plan.proofs.answer.Answer.TheSendSync as answer
use Rattle.mcv_plan.specs.contracts.state.EvalState as EvalState
use Rattle.mcv_queues.proofs.queues.Queues.TheSendSync as queues
use Rattle.mcv_queues.proofs.marks.Marks.TheSendSync as marks
use Rattle.mcv_queues.proofs.number_hasher.NumberHasher.TheSendSync as hasher
use Rattle.mcv_check.specs.contracts.accepted.Accepted as Accepted
use Rattle.mcv_core.specs.contracts.call.Call as Call
use Rattle.mcv_core.specs.contracts.calls.Calls as Calls
use Rattle.mcv_core.specs.contracts.dispatcher.Dispatcher as Dispatcher
use Rattle.mcv_core.specs.contracts.engine.Core as Core
use Rattle.mcv_core.proofs.counts.Counts.TheSendSync as counts
use Rattle.mcv_core.proofs.errand.Laid.TheSendSync as laid
use Rattle.mcv_core.proofs.errand.Errand.TheSendSync as errand
use Rattle.mcv_core.proofs.launch.Entry.TheSendSync as launched
use Rattle.mcv_core.proofs.call.Recorded.TheSendSync as recorded
use Rattle.mcv_hub.specs.contracts.state.HubState as HubState
use Rattle.mcv_hub.specs.contracts.hub.Hub as Hub
use Rattle.mcv_hub.proofs.entry.Entry.TheSendSync as entry
use Rattle.mcv_hub.specs.contracts.seat.Seat as Seat
use Rattle.mcv_hub.proofs.seat.Seat.TheSendSync as seat

route_send : IsSend Route.the_field.row
route_send = search (route.crosses, route.crosses_both, leaf.the_field_send, leaf.the_field_sync, op.the_field_send, sendable, crosses, maps.crosses) depth 24

route_sync : IsSync Route.the_field.row
route_sync = search (route.crosses, route.crosses_both, leaf.the_field_send, leaf.the_field_sync, op.the_field_sync, sendable, crosses, maps.crosses) depth 24

aliased_send : IsSend Aliased.the_row
aliased_send = search (route_send, prefix.the_send, sendable, crosses, maps.crosses) depth 24

aliased_sync : IsSync Aliased.the_row
aliased_sync = search (route_sync, prefix.the_sync, sendable, crosses, maps.crosses) depth 24

routes_send : IsSend Routes.the_row
routes_send = search (aliased_send, servers.the_send, symbols.the_send, moment.the_send, sendable, crosses, maps.crosses) depth 24

routes_sync : IsSync Routes.the_row
routes_sync = search (aliased_sync, servers.the_sync, symbols.the_sync, moment.the_sync, sendable, crosses, maps.crosses) depth 24

pub accepted_send : IsSend Accepted.the_row
accepted_send = search (routes_send, sendable, crosses, maps.crosses) depth 24

pub accepted_sync : IsSync Accepted.the_row
accepted_sync = search (routes_sync, sendable, crosses, maps.crosses) depth 24

eval_send : IsSend EvalState.the_field.row
eval_send = search (course.crosses, course.crosses_both, answer.the_send, sendable, crosses, maps.crosses) depth 24

call_send : IsSend Call.the_row
call_send = search (eval_send, op.the_field_send, moment.the_send, choice.the_send, laid.the_send, laid.the_sync, launched.the_send, recorded.the_send, sendable, crosses, maps.crosses) depth 24

calls_send : IsSend Calls.the_field.row
calls_send = search (call_send, hasher.the_send, sendable, crosses, maps.crosses) depth 24

dispatcher_send : IsSend Dispatcher.the_field.row
dispatcher_send = search (accepted_send, accepted_sync, calls_send, queues.the_field_send, errand.the_send, marks.the_field_send, counts.the_field_send, moment.the_send, moment.the_field_send, sendable, crosses, maps.crosses) depth 24

core_send : IsSend (Core.the_field Fnv.the_row).row
core_send = search (dispatcher_send, fnv.the_send, sendable, crosses, maps.crosses) depth 24

module _ (B T : RattleType) (h : hubs.Ghosts B.Denot) (b : Ghosts B.Denot) (t : Ghosts T.Denot) where
  state_send : IsSend (HubState.the_row B T h b t)
  state_send = search (core_send, entry.the_send, book.the_send, sendable, crosses, maps.crosses) depth 24

  pub hub_send : IsSend (Hub.the_row B T h b t)
  hub_send = search (state_send, accepted_send, accepted_sync, sendable, crosses, maps.crosses) depth 24

  pub hub_sync : IsSync (Hub.the_row B T h b t)
  hub_sync = search (state_send, accepted_send, accepted_sync, sendable, crosses, maps.crosses) depth 24

module _ (B T : RattleType) (b : Ghosts B.Denot) (t : Ghosts T.Denot) where
  pub seat_send : IsSend (Seat.the_row B T b t)
  seat_send = search (seat.the_send, sendable, crosses) depth 24
