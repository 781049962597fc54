-- The first words of a server's lines, and which of them may be where (memcached, protocol.txt).
use Rattle.std.specs.Prelude.{ℕ, List, [], ◌∷◌, Bool, false, codes}
use Rattle.mcv_base.specs.declared.operation.Op.{Op}
use Rattle.mcv_base.specs.declared.operation.Op.TheVariants as ops
use Rattle.mcv_base.specs.Operation.{is_same_op}
use Rattle.mcv_reply.specs.declared.word.Word.{Word}
use Rattle.mcv_reply.specs.declared.word.Word.TheVariants.{End, Value, Stored, NotStored, Exists, NotFound, Deleted, Touched, Count, Error, ClientError, ServerError, Version}
use Rattle.mcv_reply.specs.declared.word.Tail.{Tail}
use Rattle.mcv_reply.specs.declared.word.Tail.TheVariants as tails
use Rattle.mcv_reply.specs.declared.word.Row.{Row}
use Rattle.mcv_reply.specs.declared.word.Row.TheVariants.{Reply, AfterValue, Probe}

-- of a number, which has many spellings, a least one
abbrev pub word_text : Word → List ℕ
word_text End = codes "END"
word_text Value = codes "VALUE"
word_text Stored = codes "STORED"
word_text NotStored = codes "NOT_STORED"
word_text Exists = codes "EXISTS"
word_text NotFound = codes "NOT_FOUND"
word_text Deleted = codes "DELETED"
word_text Touched = codes "TOUCHED"
word_text Count = codes "0"
word_text Error = codes "ERROR"
word_text ClientError = codes "CLIENT_ERROR"
word_text ServerError = codes "SERVER_ERROR"
word_text Version = codes "VERSION"

-- what comes behind a first word
abbrev pub tail_of : Word → Tail
tail_of End = tails.Nothing
tail_of Value = tails.Value
tail_of Stored = tails.Nothing
tail_of NotStored = tails.Nothing
tail_of Exists = tails.Nothing
tail_of NotFound = tails.Nothing
tail_of Deleted = tails.Nothing
tail_of Touched = tails.Nothing
tail_of Count = tails.Count
tail_of Error = tails.Nothing
tail_of ClientError = tails.Text
tail_of ServerError = tails.Text
tail_of Version = tails.Text

-- with which words a server answers an operation; the last three may answer any
abbrev pub answers : Op → List Word
answers ops.Get = End ∷ Value ∷ Error ∷ ClientError ∷ ServerError ∷ []
answers ops.Gets = End ∷ Value ∷ Error ∷ ClientError ∷ ServerError ∷ []
answers ops.Set = Stored ∷ NotStored ∷ Error ∷ ClientError ∷ ServerError ∷ []
answers ops.Add = Stored ∷ NotStored ∷ Error ∷ ClientError ∷ ServerError ∷ []
answers ops.Replace = Stored ∷ NotStored ∷ Error ∷ ClientError ∷ ServerError ∷ []
answers ops.Append = Stored ∷ NotStored ∷ Error ∷ ClientError ∷ ServerError ∷ []
answers ops.Prepend = Stored ∷ NotStored ∷ Error ∷ ClientError ∷ ServerError ∷ []
answers ops.Cas = Stored ∷ NotStored ∷ Exists ∷ NotFound ∷ Error ∷ ClientError ∷ ServerError ∷ []
answers ops.Delete = Deleted ∷ NotFound ∷ Error ∷ ClientError ∷ ServerError ∷ []
answers ops.Touch = Touched ∷ NotFound ∷ Error ∷ ClientError ∷ ServerError ∷ []
answers ops.Incr = Count ∷ NotFound ∷ Error ∷ ClientError ∷ ServerError ∷ []
answers ops.Decr = Count ∷ NotFound ∷ Error ∷ ClientError ∷ ServerError ∷ []

-- a value is followed by a line END, and a probe is answered by a line VERSION
abbrev pub words : Row → List Word
words (Reply op) = answers op
words AfterValue = End ∷ []
words Probe = Version ∷ []

-- a value that gets asked for says its unique number
abbrev pub has_cas : Row → Bool
has_cas (Reply op) = is_same_op op ops.Gets
has_cas AfterValue = false
has_cas Probe = false
