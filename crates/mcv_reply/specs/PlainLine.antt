-- The first line of a reply as servers write it: single spaces, and a CR at its end. Only private functions speak of this; what a line is, Line alone says.
use Rattle.std.specs.Prelude.{◌≡◌, ℕ, ◌+◌, ◌<◌, ◌≤◌, List, [], ◌∷◌, ◌++◌, length, take, drop, Contains, codes}
use Rattle.mcv_base.specs.declared.operation.Op.{Op}
use Rattle.mcv_reply.specs.declared.word.Word.{Word}
use Rattle.mcv_reply.specs.declared.word.Tail.TheVariants as tails
use Rattle.mcv_reply.specs.declared.word.Row.TheVariants as rows
use Rattle.mcv_reply.specs.declared.line.Meaning.{Meaning}
use Rattle.mcv_reply.specs.Word.{answers, tail_of, word_text}
use Rattle.mcv_reply.specs.Line.{IsLine, IsWritten, number}

-- a space, the number, of at most the limit, and what is left
pub record SpacedNumber (limit n : ℕ) (bytes left : List ℕ) : Type 0 where
  pub digits : List ℕ
  pub parts : bytes ≡ 32 ∷ (digits ++ left)
  pub is : IsWritten (number limit n) digits

-- the line is a word that may answer the operation, with nothing behind it but a CR
pub record IsBareWord (op : Op) (first : Word) (line : List ℕ) : Type 0 where
  pub may : Contains (answers op) first
  pub tail : tail_of first ≡ tails.Nothing
  pub parts : line ≡ word_text first ++ 13 ∷ []

-- the piece has the line whole at its front
pub record StartsLine (op : Op) (key piece : List ℕ) (end : ℕ) (said : Meaning) : Type 0 where
  pub within : end < length piece
  pub cut : piece ≡ take end piece ++ 10 ∷ drop (end + 1) piece
  pub taken : take (end + 1) piece ≡ take end piece ++ 10 ∷ []
  pub line : IsLine (rows.Reply op) key said.first said.head (take end piece)

-- what servers write behind a value
abbrev pub value_end : List ℕ
value_end = 13 ∷ 10 ∷ (codes "END" ++ 13 ∷ 10 ∷ [])

-- the piece begins with what the value lacks, and the end
pub record EndsValue (missing : ℕ) (piece : List ℕ) : Type 0 where
  pub within : missing + 7 ≤ length piece
  pub taken : take (missing + 7) piece ≡ take missing piece ++ value_end
