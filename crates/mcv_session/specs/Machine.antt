-- A session that waits for nobody, as clauses see it, and what it has lived through.
use Rattle.std.specs.Prelude.{◌≡◌, ◌++◌, ℕ, List, [], ◌∷◌, map, true, false, Option, Some, None, ⊤}
use Rattle.std.specs.List.{All, list_any}
use Rattle.mcv_text.specs.Request.{AskValue, RequestValue, asking, ItemValue, asked}
use Rattle.mcv_text.specs.Stream.{Awaits, Reads, followed}
use Rattle.mcv_session.specs.declared.phase.Phase.{Phase}
use Rattle.mcv_session.specs.declared.phase.Phase.TheVariants.{Open, Ended, Failed}
use Rattle.mcv_session.specs.Exchange.{Exchange, by_desk, by_version, by_quit, by_refusal, item_of, text_of, texts_of, ends}
use Rattle.mcv_session.specs.Session.{taken}

pub record MachineValue : Type 0 where
  pub reader : Awaits  -- what of the client's bytes is still waited for
  pub waiting : List ItemValue  -- the items read and neither asked nor answered
  pub request : Option RequestValue  -- what was asked and isn't answered
  pub output : List ℕ  -- what waits to be written
  pub phase : Phase

-- what came to a session, what it answered, and what of that is written
pub record History : Type 0 where
  pub bytes : List ℕ
  pub log : List Exchange
  pub written : List ℕ

-- a session that nothing has come to yet; its reader awaits this
abbrev pub unused : Awaits → MachineValue
unused from = record { reader = from; waiting = []; request = None; output = []; phase = Open }

-- nothing waits: no item, no request, no output
abbrev pub IsIdle : MachineValue → Type 0
IsIdle now = (now.phase ≡ Open) × (now.request ≡ None) × (now.waiting ≡ []) × (now.output ≡ [])

abbrev pub unlived : History
unlived = record { bytes = []; log = []; written = [] }

abbrev pub asked_item : Option RequestValue → List ItemValue
asked_item None = []
asked_item (Some request) = asked request ∷ []

-- what of the items was answered, and what is still to be
abbrev pub Stands : Phase → MachineValue → List Exchange → List ItemValue → Awaits → Type 0
Stands Open now log items rest = (map item_of log ++ (asked_item now.request ++ now.waiting) ≡ items) × (list_any ends (map item_of log) ≡ false) × (rest ≡ now.reader)
Stands Ended now log items rest = (map item_of log ≡ taken items) × (list_any ends items ≡ true) × (rest ≡ now.reader) × (now.request ≡ None)
Stands Failed now log items rest = ((more : List ItemValue) × (map item_of log ++ more ≡ taken items)) × (now.request ≡ None)

-- a session whose reader awaited `from` has lived through this: what is written and what waits to be are the answers to the first of the items read
pub record Lived (from : Awaits) (h : History) (now : MachineValue) : Type 0 where
  pub items : List ItemValue
  pub rest : Awaits
  pub reads : Reads (followed from h.bytes) items rest
  pub stands : Stands now.phase now h.log items rest
  pub writes : h.written ++ now.output ≡ texts_of h.log

-- the promise of a session at each moment of its life: in their order, the items that it would take
pub record Keeps (from : Awaits) (h : History) (now : MachineValue) : Type 0 where
  pub items : List ItemValue
  pub rest : Awaits
  pub reads : Reads (followed from h.bytes) items rest
  pub more : List ItemValue  -- not answered yet, or never
  pub takes : map item_of h.log ++ more ≡ taken items
  pub writes : h.written ++ now.output ≡ texts_of h.log

-- answered without a desk
abbrev pub IsOwn : Exchange → Type 0
IsOwn (by_desk ask answer) = ⊥
IsOwn by_version = ⊤
IsOwn by_quit = ⊤
IsOwn (by_refusal refusal) = ⊤

-- it answered by itself some items, and nothing else happened
abbrev pub Passes : Awaits → History → MachineValue → Type 0
Passes from h now = (own : List Exchange) × All IsOwn own × Lived from (record h { log = h.log ++ own }) now

-- a piece was read
pub record Feeds (old : MachineValue) (piece : List ℕ) (new : MachineValue) : Type 0 where
  pub items : List ItemValue
  pub reads : Reads (followed old.reader piece) items new.reader
  pub waiting : new.waiting ≡ old.waiting ++ items
  pub request : new.request ≡ old.request
  pub output : new.output ≡ old.output
  pub phase : new.phase ≡ old.phase

-- memory ran out
pub record Fails (old new : MachineValue) : Type 0 where
  pub phase : new.phase ≡ Failed
  pub request : new.request ≡ None
  pub output : new.output ≡ old.output

-- the request was answered with this text
pub record Replies (old : MachineValue) (text : List ℕ) (new : MachineValue) : Type 0 where
  pub reader : new.reader ≡ old.reader
  pub waiting : new.waiting ≡ old.waiting
  pub request : new.request ≡ None
  pub output : new.output ≡ old.output ++ text
  pub phase : new.phase ≡ old.phase

-- one waiting item was answered without a desk
pub record PassesOne (old new : MachineValue) : Type 0 where
  pub exchange : Exchange
  pub own : IsOwn exchange
  pub left : List ItemValue
  pub took : old.waiting ≡ item_of exchange ∷ left
  pub goes_on : ends (item_of exchange) ≡ false
  pub reader : new.reader ≡ old.reader
  pub waiting : new.waiting ≡ left
  pub request : new.request ≡ None
  pub output : new.output ≡ old.output ++ text_of exchange
  pub phase : new.phase ≡ Open

-- and it ends the session
pub record EndsOne (old new : MachineValue) : Type 0 where
  pub exchange : Exchange
  pub own : IsOwn exchange
  pub left : List ItemValue
  pub took : old.waiting ≡ item_of exchange ∷ left
  pub last : ends (item_of exchange) ≡ true
  pub reader : new.reader ≡ old.reader
  pub request : new.request ≡ None
  pub output : new.output ≡ old.output ++ text_of exchange
  pub phase : new.phase ≡ Ended

-- one waiting item is a request that was given out
pub record AsksOne (old : MachineValue) (request : RequestValue) (new : MachineValue) : Type 0 where
  pub ask : AskValue
  pub is : request ≡ asking ask
  pub left : List ItemValue
  pub took : old.waiting ≡ asked request ∷ left
  pub reader : new.reader ≡ old.reader
  pub waiting : new.waiting ≡ left
  pub asks : new.request ≡ Some request
  pub output : new.output ≡ old.output
  pub phase : new.phase ≡ Open
