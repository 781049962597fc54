-- The calls and legs of a proxy at one moment: what each call has recorded and launched, and where each leg is (own).
use Rattle.std.specs.Prelude.{ℕ, nat_eq, cond, Bool, true, false, List, [], ◌∷◌, Option, Some, None, map, option_map, option_and_then, unwrap_or, slice_get, slice_index, if◌then◌else◌, ◌&&◌, is_some}
use Rattle.std.specs.List.{list_all}
use Rattle.mcv_base.specs.declared.operation.Op.{Op}
use Rattle.mcv_base.specs.declared.reply.FixedReply.TheVariants.{ErrorRoute}
use Rattle.mcv_base.specs.Operation.{is_delete, is_counting}
use Rattle.mcv_base.specs.Reply.{ReplyValue, outcome_of, fixed_value}
use Rattle.mcv_route.specs.declared.launch.Launch.{Launch}
use Rattle.mcv_route.specs.Outcomes.{History, Choice, is_same, outcomes}
use Rattle.mcv_route.specs.Tree.{Tree, error}
use Rattle.mcv_route.specs.Situation.{Situation, asked}
use Rattle.mcv_route.specs.Replies.{Answer, Source, leg, fixed, refusal}
use Rattle.mcv_route.specs.Launched.{launched}
use Rattle.mcv_route.specs.Reply as one
use Rattle.mcv_route.specs.Routes.{RoutesValue}
use Rattle.mcv_rules.specs.Status.{default_reply}

-- where a leg is
pub data LegState : Type 0 where
  -- launched, and not yet done with: it waits for its server, is under way, or is held for the spool
  Queued : LegState
  -- a delete that its server answered without an error
  Performed : LegState
  -- kept in the spool, from which it is sent again until it is performed
  Spooled : LegState
  -- of no further use: a leg that needn't be sent again
  Gone : LegState

-- what a call has recorded of its leg at a position: what the server replied, NOT_FOUND for a leg that was spooled, or
-- the error line of a leg that was lost or that the spool refused
pub record Recorded : Type 0 where
  pub position : List ℕ
  pub reply : ReplyValue

-- one request for one key
pub record Call : Type 0 where
  pub op : Op
  -- the number of its route
  pub route : ℕ
  -- its key without the routing prefix
  pub rest : List ℕ
  -- its era is that in which it began, named by the break at which this era began; none in the first era
  pub since : Option ℕ
  -- the index that the hash gives its key for each symbol
  pub choice : List ℕ
  -- of its legs, the newest first
  pub recorded : List Recorded
  -- its reply was taken by who asked
  pub taken : Bool

-- one request to one server
pub record Leg : Type 0 where
  -- the number of its call; none for a leg whose record the spool held when the proxy started
  pub call : Option ℕ
  -- its position, server, operation and mark
  pub launch : Launch
  pub rest : List ℕ
  pub state : LegState

-- calls and legs by number
pub record World : Type 0 where
  pub calls : ℕ → Option Call
  pub legs : ℕ → Option Leg
  -- the era in which a call begins now, named as those of calls
  pub since : Option ℕ
  pub next_call : ℕ
  pub next_leg : ℕ

-- ---- calls

-- the tree of a route; ErrorRoute where there is no such route
abbrev pub tree_of : RoutesValue → ℕ → Tree
tree_of r route = unwrap_or (option_map (λ e. e.tree) (slice_get r.entries route)) error

abbrev pub situation_of : Call → Situation
situation_of call = asked call.op call.rest call.since

abbrev pub choice_of : Call → Choice
choice_of call = slice_index call.choice

-- what is recorded, as the rules of routes read it
abbrev pub history_of : List Recorded → History
history_of recorded = map (λ h. (h.position, outcome_of h.reply)) recorded

-- the legs that the call has launched, in the order of their positions: those that its route sends once exactly what
-- it has recorded is known
abbrev pub launched_by : RoutesValue → Call → List Launch
launched_by r call = launched (tree_of r call.route) (situation_of call) (choice_of call) (outcomes (history_of call.recorded))

abbrev pub answer_of : RoutesValue → Call → Option Answer
answer_of r call = one.reply (tree_of r call.route) (situation_of call) (history_of call.recorded)

-- the newest reply recorded at the position
abbrev pub reply_at : List Recorded → List ℕ → Option ReplyValue
reply_at [] p = None
reply_at (h ∷ recorded) p = if is_same h.position p then Some h.reply else reply_at recorded p

-- the reply recorded at a leg's position, the default reply, or ErrorRoute's
abbrev pub reply_from : Call → Source → Option ReplyValue
reply_from call (leg p) = reply_at call.recorded p
reply_from call fixed = Some (fixed_value (default_reply call.op))
reply_from call refusal = Some (fixed_value ErrorRoute)

-- the call's reply, once there is one
abbrev pub reply_of : RoutesValue → Call → Option ReplyValue
reply_of r call = option_and_then (λ a. reply_from call a.source) (answer_of r call)

-- each leg that it has launched has an outcome
abbrev pub is_settled : RoutesValue → Call → Bool
is_settled r call = list_all (λ l. is_some (outcomes (history_of call.recorded) l.position)) (launched_by r call)

-- ---- legs

-- a counted delete leg: a delete that lies under no shadow
abbrev pub is_counted_delete : Leg → Bool
is_counted_delete s = is_delete s.launch.op && is_counting s.launch.mark

abbrev pub is_queued : LegState → Bool
is_queued Queued = true
is_queued Performed = false
is_queued Spooled = false
is_queued Gone = false

abbrev pub is_spooled : LegState → Bool
is_spooled Queued = false
is_spooled Performed = false
is_spooled Spooled = true
is_spooled Gone = false

-- ---- by number

-- the same by number, with this at the number
abbrev pub put : {A : Type 0} → (ℕ → Option A) → ℕ → Option A → ℕ → Option A
put f n w m = cond (nat_eq n m) w (f m)
