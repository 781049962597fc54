-- What the desks are asked, each at its hub (own).
use Rattle.slab.specs.Slab.{Slab, get}
use Rattle.std.specs.Prelude.{◌≡◌, ◌≢◌, ◌<◌, ◌⊎◌, ◌++◌, ◌∷◌, [], ℕ, zero, suc, Bool, List, Option, None, Some, Result, IfSome, ⊤, option_map}
use Rattle.std.specs.Arc.{arc_value}
use Rattle.std.specs.VecDeque.{deque_len}
use Rattle.mcv_base.specs.Reply.{ReplyValue}
use Rattle.mcv_core.specs.CoreView.{CoreView}
use Rattle.mcv_hub.specs.Seats.{SeatView}
use Rattle.mcv_hub.specs.declared.receipts.Receipt.{Receipt}
use Rattle.mcv_hubs.specs.Choice.{IsHubOf}
use Rattle.mcv_hubs.specs.Counts.{Tally, tally}
use Rattle.mcv_session.specs.declared.desk.DeskFault.{DeskFault}
use Rattle.mcv_text.specs.Request.{RequestValue, request_value}
use Rattle.mcv_turn.specs.OpenRequests.{open_at}
use Rattle.mcv_turn.specs.Question.{QuestionView}
use Rattle.mcv_turn.specs.declared.answer.Answer.{Answer}
use Rattle.mcv_turn.specs.declared.answer.Asker.{Asker}
use Rattle.mcv_turn.specs.declared.answer.Asker.TheVariants.{Key, Session}
use Rattle.mcv_turn.specs.declared.servers.Servers.{Servers}
use Rattle.mcv_desks.specs.Desks.{AsksHubs, HaveHub}
use Rattle.mcv_desks.specs.Mixed.{IsKeyAlone, MixedRequest, MixedView}
use Rattle.mcv_desks.specs.Open.{DesksView}
pub use Rattle.mcv_desks.specs.Open.{eight, mixed_at}
use Rattle.mcv_desks.specs.declared.desks.Joined.{Joined}
use Rattle.mcv_desks.specs.declared.desks.Joined.TheVariants.{Nothing, Reply, Whole}
use Rattle.mcv_desks.specs.declared.desks.NextKey.{NextKey}
use Rattle.mcv_desks.specs.declared.hub_desks.HubDesks.{HubDesks}

-- the requests at the desk of the hub of this number
abbrev pub questions_at : {F G : Type 0} → HubDesks F G → ℕ → Slab QuestionView
questions_at d = eight d.desk0.questions d.desk1.questions d.desk2.questions d.desk3.questions d.desk4.questions d.desk5.questions d.desk6.questions d.desk7.questions

-- whether something was asked at that desk since its last turn
abbrev pub asked_at : {F G : Type 0} → HubDesks F G → ℕ → Bool
asked_at d = eight d.desk0.is_asked d.desk1.is_asked d.desk2.is_asked d.desk3.is_asked d.desk4.is_asked d.desk5.is_asked d.desk6.is_asked d.desk7.is_asked

-- how many requests wait to begin there
abbrev pub entering_at : {F G : Type 0} → HubDesks F G → ℕ → ℕ
entering_at d = eight (deque_len d.desk0.entering) (deque_len d.desk1.entering) (deque_len d.desk2.entering) (deque_len d.desk3.entering) (deque_len d.desk4.entering) (deque_len d.desk5.entering) (deque_len d.desk6.entering) (deque_len d.desk7.entering)

-- what is known of the servers there
abbrev pub servers_at : {F G : Type 0} → HubDesks F G → ℕ → Servers
servers_at d = eight d.desk0.notes.servers d.desk1.notes.servers d.desk2.notes.servers d.desk3.notes.servers d.desk4.notes.servers d.desk5.notes.servers d.desk6.notes.servers d.desk7.notes.servers

-- what was counted with a seat
abbrev pub tally_of : SeatView → Tally
tally_of s = tally s.begun.amount s.taken.amount s.begun.parts s.taken.parts

-- with each of them
abbrev pub tallies_of : {F G : Type 0} → HubDesks F G → List Tally
tallies_of d = tally_of d.desk0.seat ∷ tally_of d.desk1.seat ∷ tally_of d.desk2.seat ∷ tally_of d.desk3.seat ∷ tally_of d.desk4.seat ∷ tally_of d.desk5.seat ∷ tally_of d.desk6.seat ∷ tally_of d.desk7.seat ∷ []

-- the receipts that all keep
abbrev pub receipts_of : {F G : Type 0} → HubDesks F G → List Receipt
receipts_of d = d.desk0.kept.receipts.items ++ d.desk1.kept.receipts.items ++ d.desk2.kept.receipts.items ++ d.desk3.kept.receipts.items ++ d.desk4.kept.receipts.items ++ d.desk5.kept.receipts.items ++ d.desk6.kept.receipts.items ++ d.desk7.kept.receipts.items

-- what clauses see of desks over so many hubs, of so many bytes for an answer, and of requests with keys of several hubs
abbrev pub desks_view : {F G : Type 0} → (hubs most : ℕ) → Slab MixedView → HubDesks F G → DesksView
desks_view hubs most mixed d = record {
  hubs = hubs;
  most = most;
  mixed = mixed;
  questions = (d.desk0.questions, d.desk1.questions, d.desk2.questions, d.desk3.questions, d.desk4.questions, d.desk5.questions, d.desk6.questions, d.desk7.questions);
  asked = (d.desk0.is_asked, d.desk1.is_asked, d.desk2.is_asked, d.desk3.is_asked, d.desk4.is_asked, d.desk5.is_asked, d.desk6.is_asked, d.desk7.is_asked);
  entering = (deque_len d.desk0.entering, deque_len d.desk1.entering, deque_len d.desk2.entering, deque_len d.desk3.entering, deque_len d.desk4.entering, deque_len d.desk5.entering, deque_len d.desk6.entering, deque_len d.desk7.entering);
  servers = (d.desk0.notes.servers, d.desk1.notes.servers, d.desk2.notes.servers, d.desk3.notes.servers, d.desk4.notes.servers, d.desk5.notes.servers, d.desk6.notes.servers, d.desk7.notes.servers);
  tallies = tallies_of d;
  receipts = receipts_of d;
}

-- this becomes of those of one of eight desks, and those of the others stay
pub record AtOne (change : Slab QuestionView → Slab QuestionView → Type 0) (hub : ℕ) (old new : ℕ → Slab QuestionView) : Type 0 where
  pub here : change (old hub) (new hub)
  pub others : (other : ℕ) → other ≢ hub → other < 8 → new other ≡ old other

-- ---- requests with keys of several hubs

abbrev pub AreSameMixed : Slab MixedView → Slab MixedView → Type 0
AreSameMixed old new = (number : ℕ) → mixed_at new number ≡ mixed_at old number

-- some may be gone, and the others stay
abbrev pub AreSomeLeft : (old new : ℕ → Option MixedRequest) → Type 0
AreSomeLeft old new = (number : ℕ) → (new number ≡ old number) ⊎ (new number ≡ None)

-- this key of it, where it is there, is to be asked next, alone at the hub of the key
pub record IsNextKey (hubs : ℕ) (mixed : Option MixedRequest) (k : NextKey) : Type 0 where
  pub request : MixedRequest
  pub there : mixed ≡ Some request
  pub serial : k.serial ≡ request.serial
  pub alone : IsKeyAlone request k.key (request_value (arc_value k.alone))
  pub of_key : IsHubOf hubs request.asked k.key k.hub

-- it is answered so, as the session's request that it is
pub record IsAnswerOf (opened_of : ℕ → CoreView) (mixed : Option MixedRequest) (asker : Asker) (request : RequestValue) (answer : Result (List ReplyValue) DeskFault) : Type 0 where
  pub its : MixedRequest
  pub there : mixed ≡ Some its
  pub to : asker ≡ Session its.number
  pub request_is : request ≡ request_value its.asked
  pub asks : AsksHubs opened_of its.hubs request answer

-- it holds of the answer, where a request is answered
abbrev pub IfWhole : Joined → (Answer → Type 0) → Type 0
IfWhole Nothing P = ⊤
IfWhole Reply P = ⊤
IfWhole (Whole a) P = P a

-- this holds where none is
abbrev pub IfNotWhole : Joined → Type 0 → Type 0
IfNotWhole Nothing X = X
IfNotWhole Reply X = X
IfNotWhole (Whole a) X = ⊤

abbrev pub joined_of : Option Answer → Joined
joined_of None = Reply
joined_of (Some a) = Whole a

-- ---- what is asked

-- a request of a session, whose keys all have this hub; or a key of a request of several hubs, alone: that one, if it is still there, has
-- the number and this serial number, which is below the next one
abbrev pub IsAskedOf : (hubs hub next : ℕ) → (ℕ → Option MixedRequest) → Asker → RequestValue → Type 0
IsAskedOf hubs hub next mixed (Session number) request = (hub < hubs) × HaveHub hubs request hub
IsAskedOf hubs hub next mixed (Key number serial key) request = (serial < next) × IfSome (mixed number) (λ q. q.serial ≡ serial → IsKeyAlone q key request × IsHubOf hubs q.asked key hub)

-- each open request of each of the eight desks is such a one
abbrev pub AreAsked : (hubs next : ℕ) → (ℕ → Option MixedRequest) → (ℕ → Slab QuestionView) → Type 0
AreAsked hubs next mixed questions = (hub : ℕ) → hub < 8 → (number : ℕ) (asker : Asker) (request : RequestValue) → open_at (questions hub) number ≡ Some (asker, request) → IsAskedOf hubs hub next mixed asker request

-- each is among so many hubs, and has a serial number that was given out
abbrev pub AreKnown : (hubs next : ℕ) → (ℕ → Option MixedRequest) → Type 0
AreKnown hubs next mixed = (number : ℕ) (q : MixedRequest) → mixed number ≡ Some q → (q.hubs ≡ hubs) × (q.serial < next)

-- what desks side by side keep
pub record AreDesks (hubs next : ℕ) (mixed : ℕ → Option MixedRequest) (questions : ℕ → Slab QuestionView) : Type 0 where
  pub asked : AreAsked hubs next mixed questions
  pub known : AreKnown hubs next mixed
