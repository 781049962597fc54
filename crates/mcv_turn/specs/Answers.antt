-- What a desk over a hub answers, by the replies that it took of the hub (own).
use Rattle.std.specs.Prelude.{◌≡◌, ◌≢◌, ◌⊎◌, ◌+◌, ◌≤◌, ◌++◌, ◌∷◌, ℕ, List, [], Option, None, Some, Result, Ok, IfOk, IfErr, IfSome, true, ⊤, fold, length, map, nat_le, option_map, slice_get, take}
use Rattle.std.specs.List.{All, Contains, filter}
use Rattle.mcv_base.specs.Key.{IsCut, IsKeyFault, is_key_word}
use Rattle.mcv_base.specs.Reply.{ReplyValue, part_value}
use Rattle.mcv_base.specs.declared.key.KeyFault.{KeyFault}
use Rattle.mcv_base.specs.declared.operation.Op.{Op}
use Rattle.mcv_base.specs.declared.request.CallId.{CallId}
use Rattle.mcv_base.specs.declared.request.Request.{Request}
use Rattle.mcv_core.specs.CoreView.{CoreView}
use Rattle.mcv_core.specs.View.{core_view}
use Rattle.mcv_core.specs.declared.fault.CoreFault.{CoreFault}
use Rattle.mcv_core.specs.declared.fault.CoreFault.TheVariants.{UnknownPrefix, BadKey, LegsFull, ChapterFull, NothingWaiting, NoSuchLeg, Busy, ClockBack, Memory, NoSuchCall}
use Rattle.mcv_hub.specs.Gate.{IsHubBegun, IsHubUnbegun}
use Rattle.mcv_hub.specs.State.{HistoryKeepsDeletes, HubView, IsCallOf, IsOf, Replies}
use Rattle.mcv_hub.specs.declared.receipts.Receipt.{Receipt}
use Rattle.mcv_hub.specs.declared.seat.TakenReply.{TakenReply}
use Rattle.mcv_route.specs.Places.{route_of_prefix}
use Rattle.mcv_route.specs.Routes.{RoutesValue}
use Rattle.mcv_session.specs.Desk.{keys_of}
use Rattle.mcv_session.specs.declared.desk.DeskFault.{DeskFault}
use Rattle.mcv_session.specs.declared.desk.DeskFault.TheVariants as answers
use Rattle.mcv_text.specs.Request.{RequestValue, asking as asks, version, quit, request_value}

-- ---- keys

-- the operation of a request, and its key word of this number, from 0
abbrev pub word_at : RequestValue → ℕ → Option (Op × List ℕ)
word_at (asks ask) key = option_map (λ word. (ask.op, word)) (slice_get ask.keys key)
word_at version key = None
word_at quit key = None

-- the key word has this rest, and this is the route of its prefix
pub record IsRouted (r : RoutesValue) (word : List ℕ) (route : ℕ) (rest : List ℕ) : Type 0 where
  pub prefix : List ℕ
  pub is_key : is_key_word word ≡ true
  pub cut : IsCut word prefix rest
  pub some : rest ≢ []
  pub routed : route_of_prefix prefix r.entries ≡ Some route

-- the word is no key
pub record IsNoKey (word : List ℕ) : Type 0 where
  pub fault : KeyFault
  pub faulty : IsKeyFault word fault

-- no route has the prefix of the key word
pub record HasNoRoute (r : RoutesValue) (word : List ℕ) : Type 0 where
  pub prefix : List ℕ
  pub rest : List ℕ
  pub cut : IsCut word prefix rest
  pub unrouted : route_of_prefix prefix r.entries ≡ None

-- why no route takes a word
abbrev pub IsUnrouted : RoutesValue → List ℕ → CoreFault → Type 0
IsUnrouted r word UnknownPrefix = HasNoRoute r word
IsUnrouted r word BadKey = IsNoKey word
IsUnrouted r word LegsFull = ⊥
IsUnrouted r word ChapterFull = ⊥
IsUnrouted r word NothingWaiting = ⊥
IsUnrouted r word NoSuchLeg = ⊥
IsUnrouted r word Busy = ⊥
IsUnrouted r word ClockBack = ⊥
IsUnrouted r word Memory = ⊥
IsUnrouted r word NoSuchCall = ⊥

-- ---- calls

-- it was seen under the lock of the hub that was opened so: deletes are kept in it
pub record WasSeen (opened : CoreView) (state : HubView) : Type 0 where
  pub hub : IsOf opened state
  pub keeps : HistoryKeepsDeletes (core_view state.core) state.history

-- a call for the key of this number was refused for this cause
pub record WasRefused (opened : CoreView) (request : RequestValue) (key : ℕ) (fault : CoreFault) : Type 0 where
  pub state : HubView
  pub seen : WasSeen opened state
  pub asked : Request
  pub its : request_value asked ≡ request
  pub cause : IsHubUnbegun state asked key fault

-- a call for the key of this number was begun, under this number
pub record WasBegun (opened : CoreView) (request : RequestValue) (key : ℕ) (call : CallId) : Type 0 where
  pub state : HubView
  pub seen : WasSeen opened state
  pub asked : Request
  pub its : request_value asked ≡ request
  pub after : HubView
  pub begins : IsHubBegun state asked key (Ok call) after

-- these calls were, for the first keys of the request, in their order
pub data AreBegun (opened : CoreView) (request : RequestValue) : List CallId → Type 0 where
  none : AreBegun opened request []
  more : (calls : List CallId) (call : CallId) → AreBegun opened request calls → WasBegun opened request (length calls) call → AreBegun opened request (calls ++ call ∷ [])

-- in a state of the hub the call didn't run
pub record WasMissing (opened : CoreView) (call : CallId) : Type 0 where
  pub state : HubView
  pub seen : WasSeen opened state
  pub none : (core_view state.core).rows.calls call.0 ≡ None

-- one of the calls
pub record HasMissing (opened : CoreView) (calls : List CallId) : Type 0 where
  pub call : CallId
  pub one : Contains calls call
  pub was : WasMissing opened call

-- ---- replies

-- the reply was taken of the hub: in a state of it the call of the receipt ran, asked this, and had this reply, and the receipt
-- names the entry that was written then
pub record WasTaken (opened : CoreView) (t : TakenReply) : Type 0 where
  pub state : HubView
  pub seen : WasSeen opened state
  pub asked : IsCallOf state t.receipt.call.0 t.asked.op t.asked.route t.asked.rest
  pub reply : Replies state t.receipt.call.0 (part_value t.reply)
  pub chapter : t.receipt.chapter ≡ state.chapter
  pub entry : t.receipt.entry ≡ length state.history

-- the replies to the first calls, this many of which are done with, were taken, in their order; where one of them won't come it is
-- missed, and they are fewer
pub record AreTaken (opened : CoreView) (calls : List CallId) (done : ℕ) (missed : Option CoreFault) (taken : List TakenReply) : Type 0 where
  pub within : done ≤ length calls
  pub most : length taken ≤ done
  pub each : All (WasTaken opened) taken
  pub all : missed ≡ None → map (λ t. t.receipt.call) taken ≡ take done calls
  pub stranger : IfSome missed (λ fault. fault ≡ NoSuchCall)
  pub missing : IfSome missed (λ fault. HasMissing opened calls)

-- the reply is for the key of this number: its call asked the operation of the request, of the key's route and rest
pub record IsFor (r : RoutesValue) (request : RequestValue) (key : ℕ) (t : TakenReply) : Type 0 where
  pub word : List ℕ
  pub there : word_at request key ≡ Some (t.asked.op, word)
  pub routed : IsRouted r word t.asked.route t.asked.rest

-- the replies are for the first keys of the request, in their order
abbrev pub AreFor : RoutesValue → RequestValue → List TakenReply → Type 0
AreFor r request taken = (key : ℕ) (t : TakenReply) → slice_get taken key ≡ Some t → IsFor r request key t

-- ---- answers

-- the request is answered by these replies, one for each key, in the order of the keys
pub record IsAnsweredBy (r : RoutesValue) (request : RequestValue) (taken : List TakenReply) (replies : List ReplyValue) : Type 0 where
  pub for_keys : AreFor r request taken
  pub one_each : length taken ≡ length (keys_of request)
  pub replies_are : replies ≡ map (λ t. part_value t.reply) taken

-- why no call is begun for the key of this number. Memory may run out at any time
abbrev pub IsUnbegun : CoreView → RequestValue → ℕ → CoreFault → Type 0
IsUnbegun opened request key Memory = ⊤
IsUnbegun opened request key fault = WasRefused opened request key fault

-- why the request isn't answered by these calls and replies: one of the calls didn't run when its reply was to be taken, or the
-- replies aren't for the keys; or no call is begun for the first key behind those of the replies
abbrev pub IsUnanswered : CoreView → RequestValue → List CallId → List TakenReply → CoreFault → Type 0
IsUnanswered opened request calls taken NoSuchCall = HasMissing opened calls ⊎ (AreFor opened.routes request taken → ⊥)
IsUnanswered opened request calls taken fault = AreFor opened.routes request taken × IsUnbegun opened request (length taken) fault

-- what a client is answered for a fault of the core
abbrev pub desk_fault : CoreFault → DeskFault
desk_fault UnknownPrefix = answers.NoRoute
desk_fault BadKey = answers.BadKey
desk_fault LegsFull = answers.Busy
desk_fault ChapterFull = answers.Busy
desk_fault NothingWaiting = answers.Busy
desk_fault NoSuchLeg = answers.Busy
desk_fault Busy = answers.Busy
desk_fault ClockBack = answers.Busy
desk_fault Memory = answers.Memory
desk_fault NoSuchCall = answers.Busy

pub record IsFaultOf (opened : CoreView) (request : RequestValue) (calls : List CallId) (taken : List TakenReply) (fault : DeskFault) : Type 0 where
  pub cause : CoreFault
  pub is : fault ≡ desk_fault cause
  pub why : IsUnanswered opened request calls taken cause

-- the receipts that are kept once a reply was taken: those of earlier chapters go, and its own is the last
abbrev pub with_receipt : List Receipt → TakenReply → List Receipt
with_receipt receipts t = filter (λ r. nat_le t.receipt.chapter r.chapter) receipts ++ t.receipt ∷ []

-- further replies were taken, and their receipts are kept
pub record KeepsMore (old new : List Receipt) (before after : List TakenReply) : Type 0 where
  pub more : List TakenReply
  pub are : after ≡ before ++ more
  pub kept : new ≡ fold with_receipt old more

-- how the desk of the hub that was opened so answers a request: calls were begun for its keys, replies taken of the hub, and it answers by
-- these, one of each call, or why not
pub record IsAnswer (opened : CoreView) (request : RequestValue) (answer : Result (List ReplyValue) DeskFault) : Type 0 where
  pub calls : List CallId
  pub taken : List TakenReply
  pub begins : AreBegun opened request calls
  pub each : All (WasTaken opened) taken
  pub most : length taken ≤ length calls
  pub answered : IfOk answer (λ replies. IsAnsweredBy opened.routes request taken replies × (map (λ t. t.receipt.call) taken ≡ calls))
  pub refused : IfErr answer (IsFaultOf opened request calls taken)
