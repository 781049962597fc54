-- What a leg asks its server (own).
use Rattle.std.specs.Prelude.{ℕ, List, [], ◌∷◌, Option, Some, None, fold, map, option_and_then, option_map}
use Rattle.std.specs.Arc.{arc_value}
use Rattle.mcv_base.specs.declared.operation.Op.{Op}
use Rattle.mcv_base.specs.declared.request.LegRequest.{LegRequest}
use Rattle.mcv_route.specs.Routes.{RoutesValue}
use Rattle.mcv_world.specs.World as world
use Rattle.mcv_world.specs.World.{situation_of, tree_of}
use Rattle.mcv_asks.specs.Asks.{Fields, client_fields, fields_in, fields_of}
use Rattle.mcv_events.specs.Rows.{CallRow, LegRow}
use Rattle.mcv_core.specs.declared.call.Call.{Call}
use Rattle.mcv_core.specs.declared.dispatcher.Dispatcher.{Dispatcher}
use Rattle.mcv_core.specs.declared.errand.Errand.{Errand}
use Rattle.mcv_core.specs.CoreView.{CoreView}
use Rattle.mcv_core.specs.Errands.{launch_of, rest_of}
use Rattle.mcv_core.specs.Readers.{request_in}
use Rattle.mcv_core.specs.Rows.{call_of, entries_of, recorded_one}
use Rattle.mcv_core.specs.View.{core_view}

-- its operation and its key's rest, and what comes with them
pub record AskedOf : Type 0 where
  pub op : Op
  pub rest : List ℕ
  pub fields : Fields

abbrev pub asked_by : LegRequest → AskedOf
asked_by r = record { op = r.op; rest = arc_value r.rest; fields = fields_in r }

-- ---- by the view

-- the replies that a call has recorded, the oldest first
abbrev pub replies_of : world.Call → List world.Recorded
replies_of call = fold (λ replies h. h ∷ replies) [] call.recorded

-- of a leg of a running call by its route, and of any other one what the client asked. An add's call runs until the add is done with
abbrev pub fields_at_row : RoutesValue → LegRow → Option CallRow → Fields
fields_at_row r s None = client_fields s.request
fields_at_row r s (Some c) = fields_of (tree_of r c.call.route) (situation_of c.call) s.request (replies_of c.call) s.launch.position

-- with the call that launched it, while it runs
abbrev pub asked_in_row : CoreView → LegRow → AskedOf
asked_in_row v s = record { op = s.launch.op; rest = s.rest; fields = fields_at_row v.routes s (option_and_then v.rows.calls s.call) }

abbrev pub asked_at : Dispatcher → ℕ → Option AskedOf
asked_at d n = option_map (asked_in_row (core_view d)) ((core_view d).rows.legs n)

-- ---- the same in memory

abbrev pub heard_by : Call → List world.Recorded
heard_by c = map (recorded_one (entries_of c)) c.recorded.items

abbrev pub fields_by : RoutesValue → Errand → Option Call → Fields
fields_by r e None = client_fields (request_in e)
fields_by r e (Some c) = fields_of (tree_of r c.route) (situation_of (call_of c)) (request_in e) (heard_by c) (launch_of e).position

abbrev pub call_in : (ℕ → Option Call) → Errand → Option Call
call_in calls e = option_and_then calls e.call

abbrev pub asked_of : RoutesValue → (ℕ → Option Call) → Errand → AskedOf
asked_of r calls e = record { op = (launch_of e).op; rest = rest_of e; fields = fields_by r e (call_in calls e) }
