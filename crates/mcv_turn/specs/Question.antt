-- A request at a hub, from its first call to its last reply (own).
use Rattle.std.specs.Prelude.{◌≡◌, ◌≤◌, [], ℕ, List, Option, None, Some, IfSome, Vec, length, vec_capacity}
use Rattle.std.specs.declared.alloc.Global.{Global}
use Rattle.mcv_base.specs.declared.reply.Part.{Part}
use Rattle.mcv_base.specs.declared.request.CallId.{CallId}
use Rattle.mcv_core.specs.CoreView.{CoreView}
use Rattle.mcv_core.specs.declared.fault.CoreFault.{CoreFault}
use Rattle.mcv_core.specs.declared.fault.CoreFault.TheVariants.{NoSuchCall}
use Rattle.mcv_hub.specs.declared.seat.TakenReply.{TakenReply}
use Rattle.mcv_route.specs.Routes.{RoutesValue}
use Rattle.mcv_session.specs.Desk.{keys_of}
use Rattle.mcv_text.specs.Request.{RequestValue}
use Rattle.mcv_turn.specs.Answers.{AreBegun, AreFor, AreTaken, WasRefused}
use Rattle.mcv_turn.specs.declared.answer.Asker.{Asker}

pub record QuestionView : Type 0 where
  pub asker : Asker
  pub request : RequestValue
  -- the calls that were begun for its first keys
  pub calls : List CallId
  -- how many calls are done with: their replies were taken, or won't come
  pub done : ℕ
  -- why no call was begun for a further key
  pub refused : Option CoreFault

-- calls were begun for its first keys, in their order, at the hub that was opened so; replies were taken of these calls, in their order; a
-- call for the next key was refused for this, if one was; and there is room for all
pub record IsQuestion (opened : CoreView) (request : RequestValue) (count : ℕ) (calls : Vec CallId Global) (taken : Vec TakenReply Global) (parts : Vec Part Global) (done : ℕ) (missed refused : Option CoreFault) : Type 0 where
  pub count_is : count ≡ length (keys_of request)
  pub begun : AreBegun opened request calls.items
  pub most : length calls.items ≤ count
  pub so_far : AreTaken opened calls.items done missed taken.items
  pub refusal : IfSome refused (WasRefused opened request (length calls.items))
  pub calls_room : count ≤ vec_capacity calls
  pub taken_room : count ≤ vec_capacity taken
  pub parts_room : count ≤ vec_capacity parts
  pub no_parts : parts.items ≡ []

-- it can be answered: all calls are done with, and one was begun for each key, unless one was refused
pub record IsDone (q : QuestionView) : Type 0 where
  pub all : q.done ≡ length q.calls
  pub each : q.refused ≡ None → length q.calls ≡ length (keys_of q.request)

-- why it has no replies then: one of its calls has none; they aren't for its keys; or a call was refused
pub data IsCause (r : RoutesValue) (request : RequestValue) (taken : List TakenReply) (missed refused : Option CoreFault) (fault : CoreFault) : Type 0 where
  has_none : missed ≡ Some fault → IsCause r request taken missed refused fault
  for_others : missed ≡ None → fault ≡ NoSuchCall → (AreFor r request taken → ⊥) → IsCause r request taken missed refused fault
  unbegun : missed ≡ None → AreFor r request taken → refused ≡ Some fault → IsCause r request taken missed refused fault
