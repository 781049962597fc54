-- What a server says to a leg, and to a probe (memcached, protocol.txt).
use Rattle.std.specs.Prelude.{◌≡◌, ℕ, Bool, true, false, List, [], ◌∷◌, ◌++◌, length, Option, Some, None}
use Rattle.std.specs.Str.Lines.{strip_carriage_return}
use Rattle.mcv_base.specs.declared.operation.Op.{Op}
use Rattle.mcv_base.specs.Reply.{ReplyValue, hit, miss, stored, not_stored, exists, not_found, deleted, touched, number, fault}
use Rattle.mcv_reply.specs.declared.word.Word.{Word}
use Rattle.mcv_reply.specs.declared.word.Word.TheVariants.{End, Value, Stored, NotStored, Exists, NotFound, Deleted, Touched, Count, Error, ClientError, ServerError, Version}
use Rattle.mcv_reply.specs.declared.word.Row.TheVariants as rows
use Rattle.mcv_reply.specs.declared.candidate.Head.{Head}
use Rattle.mcv_reply.specs.Word.{has_cas}
use Rattle.mcv_reply.specs.Line.{IsLine}

-- the reply that is this line alone; a Fault keeps the line
abbrev pub said_alone : Word → Head → List ℕ → Option ReplyValue
said_alone End head line = Some miss
said_alone Value head line = None
said_alone Stored head line = Some stored
said_alone NotStored head line = Some not_stored
said_alone Exists head line = Some exists
said_alone NotFound head line = Some not_found
said_alone Deleted head line = Some deleted
said_alone Touched head line = Some touched
said_alone Count head line = Some (number head.count)
said_alone Error head line = Some (fault (strip_carriage_return line))
said_alone ClientError head line = Some (fault (strip_carriage_return line))
said_alone ServerError head line = Some (fault (strip_carriage_return line))
said_alone Version head line = None

abbrev pub cas_said : Bool → ℕ → Option ℕ
cas_said true cas = Some cas
cas_said false cas = None

-- the bytes of a hit (its last line has no numbers, `other` is never said): the line of the value, the value, CR LF, and the line of the end
pub record SpellsHit (op : Op) (key bytes : List ℕ) (reply : ReplyValue) : Type 0 where
  pub head : Head
  pub line : List ℕ
  pub value : List ℕ
  pub last : List ℕ
  pub line_is : IsLine (rows.Reply op) key Value head line
  pub size : length value ≡ head.size
  pub other : Head
  pub last_is : IsLine rows.AfterValue key End other last
  pub parts : bytes ≡ line ++ 10 ∷ (value ++ 13 ∷ 10 ∷ (last ++ 10 ∷ []))
  pub says : reply ≡ hit head.flags (cas_said (has_cas (rows.Reply op)) head.cas) value

-- the bytes of a reply that is one line
pub record SpellsAlone (op : Op) (key bytes : List ℕ) (reply : ReplyValue) : Type 0 where
  pub first : Word
  pub line : List ℕ
  pub head : Head
  pub line_is : IsLine (rows.Reply op) key first head line
  pub parts : bytes ≡ line ++ 10 ∷ []
  pub says : said_alone first head line ≡ Some reply

-- the bytes are this reply to a leg of this operation and rest
pub data Spells (op : Op) (key bytes : List ℕ) (reply : ReplyValue) : Type 0 where
  alone : SpellsAlone op key bytes reply → Spells op key bytes reply
  with_value : SpellsHit op key bytes reply → Spells op key bytes reply

-- the bytes are this answer to a probe: the line without its end
pub record SpellsVersion (bytes version : List ℕ) : Type 0 where
  pub line : List ℕ
  pub other : Head
  pub line_is : IsLine rows.Probe [] Version other line
  pub parts : bytes ≡ line ++ 10 ∷ []
  pub says : version ≡ strip_carriage_return line
