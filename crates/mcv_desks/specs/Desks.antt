-- What desks at hubs side by side answer, each key at its hub (own).
use Rattle.std.specs.Prelude.{◌≡◌, ◌<◌, ◌⊎◌, ℕ, List, Some, Result, Ok, Err, length, map, slice_get}
use Rattle.std.specs.List.{All}
use Rattle.mcv_base.specs.Reply.{ReplyValue, part_value}
use Rattle.mcv_base.specs.declared.request.Request.{Request}
use Rattle.mcv_core.specs.CoreView.{CoreView}
use Rattle.mcv_desks.specs.OneKey.{only_key}
use Rattle.mcv_hub.specs.declared.seat.TakenReply.{TakenReply}
use Rattle.mcv_hubs.specs.Choice.{IsHubOf, hub_number}
use Rattle.mcv_route.specs.Routes.{RoutesValue}
use Rattle.mcv_session.specs.Desk.{keys_of}
use Rattle.mcv_session.specs.declared.desk.DeskFault.{DeskFault}
use Rattle.mcv_session.specs.declared.desk.DeskFault.TheVariants as answers
use Rattle.mcv_text.specs.Request.{RequestValue, request_value}
use Rattle.mcv_turn.specs.Answers.{IsAnswer, IsFor, WasTaken}

-- the reply was taken of the hub of its rest
abbrev pub WasTakenOf : (opened_of : ℕ → CoreView) (hubs : ℕ) → TakenReply → Type 0
WasTakenOf opened_of hubs t = WasTaken (opened_of (hub_number hubs t.asked.rest)) t

-- and is for the key of this number
abbrev pub IsForOf : (opened_of : ℕ → CoreView) (hubs : ℕ) → RequestValue → ℕ → TakenReply → Type 0
IsForOf opened_of hubs request key t = IsFor (opened_of (hub_number hubs t.asked.rest)).routes request key t

-- each is of its hub, and for the first keys of the request, in their order
pub record AreForKeys (opened_of : ℕ → CoreView) (hubs : ℕ) (request : RequestValue) (taken : List TakenReply) : Type 0 where
  pub each : All (WasTakenOf opened_of hubs) taken
  pub for_keys : (key : ℕ) (t : TakenReply) → slice_get taken key ≡ Some t → IsForOf opened_of hubs request key t

-- one for each key of the request, in the order of the keys
pub record AreOfHubs (opened_of : ℕ → CoreView) (hubs : ℕ) (request : RequestValue) (replies : List ReplyValue) : Type 0 where
  pub taken : List TakenReply
  pub are : AreForKeys opened_of hubs request taken
  pub one_each : length taken ≡ length (keys_of request)
  pub replies_are : replies ≡ map (λ t. part_value t.reply) taken

-- whatever reply is for a key of the request, its rest has this hub
abbrev pub HaveHub : (hubs : ℕ) → RequestValue → (hub : ℕ) → Type 0
HaveHub hubs request hub = (r : RoutesValue) (key : ℕ) (t : TakenReply) → IsFor r request key t → hub_number hubs t.asked.rest ≡ hub

-- one hub, which all keys have, answers so
pub record RefusedByHub (opened_of : ℕ → CoreView) (hubs : ℕ) (request : RequestValue) (fault : DeskFault) : Type 0 where
  pub hub : ℕ
  pub there : hub < hubs
  pub have : HaveHub hubs request hub
  pub asked : IsAnswer (opened_of hub) request (Err fault)

-- the hub of some key answers so to that key alone
pub record RefusedAtHub (opened_of : ℕ → CoreView) (hubs : ℕ) (request : RequestValue) (fault : DeskFault) : Type 0 where
  pub asked : Request
  pub its : request_value asked ≡ request
  pub key : ℕ
  pub hub : ℕ
  pub of_key : IsHubOf hubs asked key hub
  pub answer : IsAnswer (opened_of hub) (only_key request key) (Err fault)

-- replies of the hubs; or the refusal of the one hub, or of one for a key. Memory may run out before
abbrev pub AsksHubs : (opened_of : ℕ → CoreView) (hubs : ℕ) → RequestValue → Result (List ReplyValue) DeskFault → Type 0
AsksHubs opened_of hubs request (Ok replies) = AreOfHubs opened_of hubs request replies
AsksHubs opened_of hubs request (Err fault) = (fault ≡ answers.Memory) ⊎ (RefusedByHub opened_of hubs request fault ⊎ RefusedAtHub opened_of hubs request fault)
