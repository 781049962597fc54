-- Lines of a server (memcached, protocol.txt): words with spaces between them, and the end. That
-- spaces are skipped, zeros may lead, a CR may miss and a line has a limit is own.
use Rattle.std.specs.Prelude.{◌≡◌, ◌≢◌, ℕ, ◌+◌, ◌-◌, ◌*◌, ◌≤◌, ◌⊎◌, Bool, true, false, List, [], ◌∷◌, ◌++◌, length, replicate, All, Contains}
use Rattle.mcv_reply.specs.declared.word.Word.{Word}
use Rattle.mcv_reply.specs.declared.word.Tail.{Tail}
use Rattle.mcv_reply.specs.declared.word.Tail.TheVariants as tails
use Rattle.mcv_reply.specs.declared.word.Row.{Row}
use Rattle.mcv_reply.specs.declared.candidate.Head.{Head}
use Rattle.mcv_reply.specs.Word.{has_cas, tail_of, word_text, words}

-- what is written in a line: these bytes, this number, of at most the limit, or any text
pub data Form : Type 0 where
  word : (bytes : List ℕ) → Form
  number : (limit n : ℕ) → Form
  text : Form

abbrev pub spaces : ℕ → List ℕ
spaces n = replicate n 32

-- decimal digits
abbrev pub IsDigits : List ℕ → Type 0
IsDigits [] = Unit {0}
IsDigits (b ∷ more) = (48 ≤ b) × (b ≤ 57) × IsDigits more

-- the number that digits go on to, behind those of n
abbrev pub decimal_from : ℕ → List ℕ → ℕ
decimal_from n [] = n
decimal_from n (b ∷ more) = decimal_from (10 * n + (b - 48)) more

abbrev pub IsWritten : Form → List ℕ → Type 0
IsWritten (word bytes) written = written ≡ bytes
IsWritten (number limit n) written = (written ≢ []) × IsDigits written × (decimal_from 0 written ≡ n) × (n ≤ limit)
IsWritten text written = ⊥

-- the end of a line: spaces, and a CR or none
abbrev pub IsBlank : List ℕ → Type 0
IsBlank [] = Unit {0}
IsBlank (b ∷ more) = ((b ≡ 32) × IsBlank more) ⊎ ((b ≡ 13) × (more ≡ []))

-- a space and any text, or nothing but a CR or none
abbrev pub IsText : List ℕ → Type 0
IsText [] = Unit {0}
IsText (b ∷ more) = (b ≡ 32) ⊎ ((b ≡ 13) × (more ≡ []))

-- spaces, at least so many, and what is written for the form, and then what may come
pub record Next (form : Form) (least : ℕ) (Then : List ℕ → Type 0) (line : List ℕ) : Type 0 where
  pub gap : ℕ
  pub written : List ℕ
  pub after : List ℕ
  pub parts : line ≡ spaces gap ++ (written ++ after)
  pub enough : least ≤ gap
  pub is : IsWritten form written
  pub rest : Then after

-- the forms are written one behind another: spaces before the first, at least so many, a space or more between neighbours
abbrev pub Writes : List Form → ℕ → List ℕ → Type 0
Writes [] least line = IsBlank line
Writes (word bytes ∷ forms) least line = Next (word bytes) least (Writes forms 1) line
Writes (number limit n ∷ forms) least line = Next (number limit n) least (Writes forms 1) line
Writes (text ∷ forms) least line = IsText line

-- `<flags> <bytes>`, and ` <cas>` for gets: 32 bits, at most 1,048,576, and 64 bits
abbrev pub cas_forms : Bool → ℕ → List Form
cas_forms true cas = number 18446744073709551615 cas ∷ []
cas_forms false cas = []

abbrev pub size_forms : Bool → Head → List Form
size_forms has head = number 1048576 head.size ∷ cas_forms has head.cas

abbrev pub flags_forms : Bool → Head → List Form
flags_forms has head = number 4294967295 head.flags ∷ size_forms has head

-- what is written behind a first word
abbrev pub tail_forms : Tail → Bool → List ℕ → Head → List Form
tail_forms tails.Nothing has key head = []
tail_forms tails.Text has key head = text ∷ []
tail_forms tails.Value has key head = word key ∷ flags_forms has head
tail_forms tails.Count has key head = []

-- the first word of a line, or the number that it is
abbrev pub first_form : Tail → List ℕ → Head → Form
first_form tails.Nothing first head = word first
first_form tails.Text first head = word first
first_form tails.Value first head = word first
first_form tails.Count first head = number 18446744073709551615 head.count

-- a line of this first word, without its LF, for a leg with this key; that of a value, and one that is a number, says the numbers
pub record IsLine (row : Row) (key : List ℕ) (first : Word) (head : Head) (line : List ℕ) : Type 0 where
  pub may : Contains (words row) first
  pub writes : Writes (first_form (tail_of first) (word_text first) head ∷ tail_forms (tail_of first) (has_cas row) key head) 0 line
  pub no_end : All (λ b. b ≢ 10) line
  pub short : length line ≤ 2048
