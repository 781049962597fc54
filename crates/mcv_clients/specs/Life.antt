-- What a client of a loop was told (own).
-- One that sent `get a` CR LF, then `get b` CR LF, and was told `END` CR LF of a's miss: its log has that one exchange, and its request for b is out.
use Rattle.std.specs.Prelude.{◌≡◌, ◌++◌, ℕ, List, [], Option, None, Some, Result, IfSome, ⊤}
use Rattle.std.specs.List.{All}
use Rattle.std.specs.Io.KnownBytes.{Appends, Consumes}
use Rattle.mcv_base.specs.Reply.{ReplyValue}
use Rattle.mcv_core.specs.CoreView.{CoreView}
use Rattle.mcv_desks.specs.Desks.{AsksHubs}
use Rattle.mcv_session.specs.declared.desk.DeskFault.{DeskFault}
use Rattle.mcv_session.specs.declared.phase.Phase.TheVariants.{Failed}
use Rattle.mcv_session.specs.Exchange.{Exchange, by_desk, by_version, by_quit, by_refusal}
use Rattle.mcv_session.specs.Machine.{History, Lived, MachineValue, unused}
use Rattle.mcv_text.specs.Request.{AskValue, RequestValue, asking}
use Rattle.mcv_text.specs.Stream.{Held}

-- what a connection has left to be read, and what was written to it, where that is known
pub record Wire : Type 0 where
  pub unread : Option (List ℕ)
  pub written : Option (List ℕ)

abbrev pub wire : (unread written : Option (List ℕ)) → Wire
wire unread written = record { unread = unread; written = written }

-- a client: its connection as it came and as it is now, its session, the number of its request that is out, and among how many hubs it asks
pub record ClientView : Type 0 where
  pub came : Wire
  pub now : Wire
  pub session : MachineValue
  pub out : Option ℕ
  pub hubs : ℕ

abbrev pub client : (came now : Wire) → MachineValue → (out : Option ℕ) → (hubs : ℕ) → ClientView
client came now session out hubs = record { came = came; now = now; session = session; out = out; hubs = hubs }

-- one that has just come
abbrev pub came_client : Wire → (hubs : ℕ) → ClientView
came_client came hubs = client came came (unused (Held [])) None hubs

-- the answer is one of the hubs, unless the session itself gave it
abbrev pub IsOfHubs : (opened_of : ℕ → CoreView) (hubs : ℕ) → Exchange → Type 0
IsOfHubs opened_of hubs (by_desk ask answer) = AsksHubs opened_of hubs (asking ask) answer
IsOfHubs opened_of hubs by_version = ⊤
IsOfHubs opened_of hubs by_quit = ⊤
IsOfHubs opened_of hubs (by_refusal refusal) = ⊤

-- since it came its session has lived through this: what was read of its connection, but for what was read when memory ran out; what was
-- written to it; and each answer is one of the hubs
pub record HasLived (opened_of : ℕ → CoreView) (h : History) (c : ClientView) : Type 0 where
  pub lived : Lived (Held []) h c.session
  pub lost : List ℕ
  pub none_lost : (c.session.phase ≡ Failed → ⊥) → lost ≡ []
  pub reads : Consumes c.came.unread c.now.unread (h.bytes ++ lost)
  pub writes : Appends c.came.written c.now.written h.written
  pub answers : All (IsOfHubs opened_of c.hubs) h.log

-- the promise: it was told, in order, the answers of the hubs to the first of the requests that it sent
abbrev pub IsAnswered : (opened_of : ℕ → CoreView) → ClientView → Type 0
IsAnswered opened_of c = (h : History) × HasLived opened_of h c

-- what a client keeps: a desk is asked for its request
pub record IsClient (opened_of : ℕ → CoreView) (c : ClientView) : Type 0 where
  pub answered : IsAnswered opened_of c
  pub asks : IfSome c.session.request (λ r. (ask : AskValue) × (r ≡ asking ask))

-- this is an answer of the hubs to its request
pub record IsToldOf (opened_of : ℕ → CoreView) (c : ClientView) (answer : Result (List ReplyValue) DeskFault) : Type 0 where
  pub request : RequestValue
  pub asked : c.session.request ≡ Some request
  pub answers : AsksHubs opened_of c.hubs request answer
