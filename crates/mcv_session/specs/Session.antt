-- What a session did with a stream of bytes: what it asked its desk, and what it wrote.
use Rattle.std.specs.Prelude.{◌≡◌, ◌⊎◌, ◌++◌, ◌≤◌, ℕ, List, [], ◌∷◌, length, map, if◌then◌else◌, Result}
use Rattle.std.specs.List.{list_any}
use Rattle.mcv_base.specs.Reply.{ReplyValue}
use Rattle.mcv_text.specs.Request.{RequestValue, asking, ItemValue}
use Rattle.mcv_text.specs.Stream.{Awaits, Reads, followed}
use Rattle.mcv_session.specs.declared.desk.DeskFault.{DeskFault}
use Rattle.mcv_session.specs.declared.session.Flow.{Flow}
use Rattle.mcv_session.specs.declared.session.Flow.TheVariants.{GoesOn, Ends}
use Rattle.mcv_session.specs.Desk.{HasOneEach}
use Rattle.mcv_session.specs.Exchange.{Exchange, by_desk, by_version, by_quit, by_refusal, item_of, texts_of, ends}

-- the items up to the first that ends the session, and with it: of `version`, `quit`, `version` the first two
abbrev pub taken : List ItemValue → List ItemValue
taken [] = []
taken (item ∷ items) = item ∷ (if ends item then [] else taken items)

abbrev pub flow_after : List ItemValue → Flow
flow_after items = if list_any ends items then Ends else GoesOn

module _ {D : Type 0} (asks : D → RequestValue → Result (List ReplyValue) DeskFault → D → Type 0) where
  -- one exchange changes the desk by its own relation where it is asked, and else not
  abbrev pub Goes : Exchange → D → D → Type 0
  Goes (by_desk ask answer) old new = asks old (asking ask) answer new × HasOneEach (asking ask) answer
  Goes by_version old new = new ≡ old
  Goes by_quit old new = new ≡ old
  Goes (by_refusal refusal) old new = new ≡ old

  -- one after the other, from the first desk to the last
  abbrev pub Chain : D → List Exchange → D → Type 0
  Chain old [] new = new ≡ old
  Chain old (exchange ∷ log) new = (mid : D) × Goes exchange old mid × Chain mid log new

  -- of these items each was answered that the session took, and this is the text of the answers
  pub record Answers (old new : D) (items : List ItemValue) (text : List ℕ) (flow : Flow) : Type 0 where
    pub log : List Exchange
    pub takes : map item_of log ≡ taken items
    pub chain : Chain old log new
    pub writes : text ≡ texts_of log
    pub flow_is : flow ≡ flow_after items

  -- memory ran out: this is the text of what was answered before; one more request may have been asked, whose answer isn't written;
  -- of `delete a`, `delete b` at the second answer: two requests, and the text of the first answer
  pub record CutShort (old new : D) (items : List ItemValue) (text : List ℕ) : Type 0 where
    pub log : List Exchange
    pub lost : List Exchange
    pub few : length lost ≤ 1
    pub more : List ItemValue
    pub takes : map item_of (log ++ lost) ++ more ≡ taken items
    pub chain : Chain old (log ++ lost) new
    pub writes : text ≡ texts_of log

  -- a session whose reader awaited this took these bytes, answered the items that end in them, and its reader awaits the rest;
  -- `get a` CR LF `quit` LF to a desk that answers a miss: one request, `END` CR LF, Ends
  pub record Serves (old new : D) (from : Awaits) (bytes text : List ℕ) (flow : Flow) (rest : Awaits) : Type 0 where
    pub items : List ItemValue
    pub reads : Reads (followed from bytes) items rest
    pub answers : Answers old new items text flow

  -- memory ran out before an item was read, or while the items were answered
  pub record Breaks (old new : D) (from : Awaits) (bytes text : List ℕ) : Type 0 where
    pub items : List ItemValue
    pub reads : (items ≡ []) ⊎ ((rest : Awaits) × Reads (followed from bytes) items rest)
    pub answers : CutShort old new items text
