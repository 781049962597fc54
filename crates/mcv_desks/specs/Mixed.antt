-- A request whose keys have several hubs, each of which is asked alone (own).
use Rattle.std.specs.Prelude.{◌≡◌, ◌<◌, ◌≤◌, [], ℕ, List, Option, None, Some, Result, Err, IfSome, Vec, count_by, is_some, length, slice_get, slice_set, vec_capacity}
use Rattle.std.specs.declared.alloc.Global.{Global}
use Rattle.std.specs.declared.sync.Arc.{Arc}
use Rattle.mcv_base.specs.Reply.{ReplyValue, part_value}
use Rattle.mcv_base.specs.declared.reply.Part.{Part}
use Rattle.mcv_base.specs.declared.request.Request.{Request}
use Rattle.mcv_core.specs.CoreView.{CoreView}
use Rattle.mcv_hub.specs.declared.seat.TakenReply.{TakenReply}
use Rattle.mcv_hubs.specs.Choice.{IsHubOf}
use Rattle.mcv_session.specs.Desk.{keys_of}
use Rattle.mcv_session.specs.declared.desk.DeskFault.{DeskFault}
use Rattle.mcv_text.specs.Request.{RequestValue, request_value}
use Rattle.mcv_turn.specs.Answers.{IsAnswer}
use Rattle.mcv_desks.specs.Desks.{AsksHubs, IsForOf, WasTakenOf}
use Rattle.mcv_desks.specs.OneKey.{AreOfKeys, only_key}

-- a request of a session, which has this number there, among so many hubs; no other one has its serial number
pub record MixedRequest : Type 0 where
  pub serial : ℕ
  pub number : ℕ
  pub hubs : ℕ
  pub asked : Request

pub record MixedView : Type 0 where
  pub request : MixedRequest
  -- how many of its keys are answered
  pub answered : ℕ
  -- why a key has no reply
  pub fault : Option DeskFault

-- this is asked for its key of this number
pub record IsKeyAlone (q : MixedRequest) (key : ℕ) (request : RequestValue) : Type 0 where
  pub within : key < length (keys_of (request_value q.asked))
  pub is : request ≡ only_key (request_value q.asked) key

-- the hub of the key of this number answers so to that key alone
pub record IsKeyAnswer (opened_of : ℕ → CoreView) (q : MixedRequest) (key : ℕ) (answer : Result (List ReplyValue) DeskFault) : Type 0 where
  pub hub : ℕ
  pub of_key : IsHubOf q.hubs q.asked key hub
  pub is : IsAnswer (opened_of hub) (only_key (request_value q.asked) key) answer

-- the reply was taken of the hub of its rest, for the key of this number
pub record IsReplyTo (opened_of : ℕ → CoreView) (hubs : ℕ) (request : RequestValue) (key : ℕ) (reply : ReplyValue) : Type 0 where
  pub taken : TakenReply
  pub was : WasTakenOf opened_of hubs taken
  pub its : IsForOf opened_of hubs request key taken
  pub is : reply ≡ part_value taken.reply

-- what is kept of it: a request for each key; a place for the reply to each, and which are there; why one has none, if one hasn't
pub record IsMixed (opened_of : ℕ → CoreView) (q : MixedRequest) (of_keys : List (Arc Request Global)) (replies : List (Option Part)) (parts : Vec Part Global) (answered : ℕ) (fault : Option DeskFault) : Type 0 where
  pub keys : AreOfKeys (request_value q.asked) of_keys
  pub one_each : length replies ≡ length of_keys
  pub replied : (key : ℕ) (part : Part) → slice_get replies key ≡ Some (Some part) → IsReplyTo opened_of q.hubs (request_value q.asked) key (part_value part)
  pub counted : fault ≡ None → answered ≤ count_by is_some replies
  pub why : IfSome fault (λ f. AsksHubs opened_of q.hubs (request_value q.asked) (Err f))
  pub room : length of_keys ≤ vec_capacity parts
  pub no_parts : parts.items ≡ []

-- its place was empty, and has this reply
pub record IsFilled (old : List (Option Part)) (key : ℕ) (part : Part) (new : List (Option Part)) : Type 0 where
  pub was : slice_get old key ≡ Some None
  pub is : new ≡ slice_set old key (Some part)

-- it can be answered: each key is, unless one has no reply
abbrev pub IsDone : MixedView → Type 0
IsDone m = m.fault ≡ None → length (keys_of (request_value m.request.asked)) ≤ m.answered
