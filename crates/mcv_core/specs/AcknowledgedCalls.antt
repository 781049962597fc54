-- Calls by the events and answers that began them and took their replies (own).
use Rattle.std.specs.Prelude.{◌≡◌, ◌≢◌, ℕ, List, Option, Some, None, option_map, slice_get}
use Rattle.std.specs.Arc.{arc_value}
use Rattle.mcv_base.specs.declared.operation.Op.TheVariants.{Delete}
use Rattle.mcv_base.specs.declared.reply.Outcome.TheVariants.{Error}
use Rattle.mcv_base.specs.declared.reply.Part.{Part}
use Rattle.mcv_base.specs.declared.request.Request.{Request}
use Rattle.mcv_base.specs.Reply.{ReplyValue, outcome_of, part_value}
use Rattle.mcv_pools.specs.Symbol.{SymbolValue}
use Rattle.mcv_route.specs.Routes.{RoutesValue}
use Rattle.mcv_route.specs.Verdict.{IsReadableNear}
use Rattle.mcv_world.specs.KeptLegs.{KeepsLeg}
use Rattle.mcv_world.specs.World.{Call, World, choice_of, reply_of, tree_of}
use Rattle.mcv_core.specs.Asking.{IsAsked}
use Rattle.mcv_core.specs.declared.run.Answer.{Answer}
use Rattle.mcv_core.specs.declared.run.Answer.TheVariants as answer
use Rattle.mcv_core.specs.declared.run.Event.{Event}
use Rattle.mcv_core.specs.declared.run.Event.TheVariants as event

-- a request, the number of its key, and the number of the call that began for it
abbrev pub Beginning : Type 0
Beginning = (Request × ℕ) × ℕ

abbrev pub begun_call : Answer → Option ℕ
begun_call (answer.Call call) = Some call.0
begun_call (answer.Leg leg) = None
begun_call (answer.State state) = None
begun_call (answer.Reply reply) = None
begun_call answer.Done = None
begun_call (answer.Refused fault) = None

abbrev pub beginning_of : Event → Answer → Option Beginning
beginning_of (event.Begin request key) a = option_map (λ k. ((arc_value request, key), k)) (begun_call a)
beginning_of (event.Next server) a = None
beginning_of (event.Answered leg reply) a = None
beginning_of (event.Lost leg) a = None
beginning_of (event.LostToo leg) a = None
beginning_of (event.Spooled leg stored) a = None
beginning_of (event.SpoolRefused leg) a = None
beginning_of (event.Replay server) a = None
beginning_of (event.Mark server) a = None
beginning_of (event.Unmark server) a = None
beginning_of (event.Clock moment) a = None
beginning_of event.Turn a = None
beginning_of (event.Take call) a = None

abbrev pub taken_reply : Answer → Option Part
taken_reply (answer.Call call) = None
taken_reply (answer.Leg leg) = None
taken_reply (answer.State state) = None
taken_reply (answer.Reply reply) = reply
taken_reply answer.Done = None
taken_reply (answer.Refused fault) = None

-- the number of a call, and its reply, taken by this event
abbrev pub taking_of : Event → Answer → Option (ℕ × ReplyValue)
taking_of (event.Begin request key) a = None
taking_of (event.Next server) a = None
taking_of (event.Answered leg reply) a = None
taking_of (event.Lost leg) a = None
taking_of (event.LostToo leg) a = None
taking_of (event.Spooled leg stored) a = None
taking_of (event.SpoolRefused leg) a = None
taking_of (event.Replay server) a = None
taking_of (event.Mark server) a = None
taking_of (event.Unmark server) a = None
taking_of (event.Clock moment) a = None
taking_of event.Turn a = None
taking_of (event.Take call) a = option_map (λ part. (call.0, part_value part)) (taken_reply a)

-- one of the events, with its answer, passes
pub record Happened (events : List Event) (answers : List Answer) (P : Event → Answer → Type 0) : Type 0 where
  pub place : ℕ
  pub event : Event
  pub answer : Answer
  pub event_is : slice_get events place ≡ Some event
  pub answer_is : slice_get answers place ≡ Some answer
  pub passes : P event answer

-- the call was begun by one of the events, for this key of the request
abbrev pub WasBegun : List Event → List Answer → ℕ → Request → ℕ → Type 0
WasBegun events answers k request key = Happened events answers (λ e a. beginning_of e a ≡ Some ((request, key), k))

-- this reply of the call was taken by one of the events
abbrev pub WasAnswered : List Event → List Answer → ℕ → ReplyValue → Type 0
WasAnswered events answers k x = Happened events answers (λ e a. taking_of e a ≡ Some (k, x))

-- the call is what was asked for the key, with this reply; and if it is a delete and the reply no error, it keeps a leg to each server that could
-- answer a get, gets, incr or decr of its rest, by its route, in an era near its own and under its choice
pub record IsKeptCall (r : RoutesValue) (chosen : SymbolValue → List ℕ → ℕ) (w : World) (k : ℕ) (request : Request) (key : ℕ) (x : ReplyValue) : Type 0 where
  pub call : Call
  pub there : w.calls k ≡ Some call
  pub asked : IsAsked r chosen request key call.op call.route call.rest call.choice
  pub reply : reply_of r call ≡ Some x
  pub kept : call.op ≡ Delete → outcome_of x ≢ Error → (server : ℕ) → IsReadableNear r (tree_of r call.route) call.rest call.since (choice_of call) server → KeepsLeg w k server

-- each call that was begun and answered
abbrev pub AnsweredCallsAreKept : RoutesValue → (SymbolValue → List ℕ → ℕ) → List Event → List Answer → World → Type 0
AnsweredCallsAreKept r chosen events answers w =
    (k : ℕ) (request : Request) (key : ℕ) (x : ReplyValue) → WasBegun events answers k request key → WasAnswered events answers k x → IsKeptCall r chosen w k request key x
