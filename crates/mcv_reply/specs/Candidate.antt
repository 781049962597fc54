-- How a line that has come in part matches the lines that it may become. The reader keeps this
-- true; what a reply is, Reply alone says.
use Rattle.std.specs.Prelude.{◌≡◌, ◌≢◌, ℕ, ◌+◌, ◌-◌, ◌<◌, ◌≤◌, Bool, true, false, List, [], ◌∷◌, ◌++◌, length, drop, All, Any, Option, Some, None, nat_lt, ◌&&◌, Result, Ok, Err, if◌then◌else◌}
use Rattle.std.specs.List.{list_all}
use Rattle.mcv_reply.specs.declared.word.Word.{Word}
use Rattle.mcv_reply.specs.declared.word.Tail.{Tail}
use Rattle.mcv_reply.specs.declared.word.Tail.TheVariants as tails
use Rattle.mcv_reply.specs.declared.word.Row.{Row}
use Rattle.mcv_reply.specs.declared.candidate.Head.{Head}
use Rattle.mcv_reply.specs.declared.candidate.Name.{Name}
use Rattle.mcv_reply.specs.declared.candidate.Name.TheVariants.{First, Key}
use Rattle.mcv_reply.specs.declared.candidate.Number.{Number}
use Rattle.mcv_reply.specs.declared.candidate.Number.TheVariants.{Flags, Size, Cas, Count}
use Rattle.mcv_reply.specs.declared.candidate.LinePart.{LinePart}
use Rattle.mcv_reply.specs.declared.candidate.LinePart.TheVariants.{BeforeName, InName, BeforeNumber, InNumber, Blank, Return, Text}
use Rattle.mcv_reply.specs.declared.candidate.Candidate.{Candidate}
use Rattle.mcv_reply.specs.declared.candidate.Advance.{Advance}
use Rattle.mcv_reply.specs.declared.line.Meaning.{Meaning}
use Rattle.mcv_reply.specs.declared.fault.ReplyFault.{ReplyFault}
use Rattle.mcv_reply.specs.declared.fault.ReplyFault.TheVariants as faults
use Rattle.mcv_reply.specs.Word.{has_cas, tail_of, word_text}
use Rattle.mcv_reply.specs.Line.{Form, word, number, text, Writes, IsBlank, IsDigits, IsLine, cas_forms, decimal_from, flags_forms, size_forms, tail_forms}

abbrev pub name_text : Name → Word → List ℕ → List ℕ
name_text First first key = word_text first
name_text Key first key = key

-- what is written behind a word that is known, and behind a number
abbrev pub behind_name : Name → Word → Bool → List ℕ → Head → List Form
behind_name First first has key head = tail_forms (tail_of first) has key head
behind_name Key first has key head = flags_forms has head

abbrev pub behind_number : Number → Bool → Head → List Form
behind_number Flags has head = size_forms has head
behind_number Size has head = cas_forms has head.cas
behind_number Cas has head = []
behind_number Count has head = []

abbrev pub limit_of : Number → ℕ
limit_of Flags = 4294967295
limit_of Size = 1048576
limit_of Cas = 18446744073709551615
limit_of Count = 18446744073709551615

abbrev pub number_in : Number → Head → ℕ
number_in Flags head = head.flags
number_in Size head = head.size
number_in Cas head = head.cas
number_in Count head = head.count

-- the numbers before this one have been read
abbrev pub SoFar : Number → Head → Head → Type 0
SoFar Flags read head = Unit {0}
SoFar Size read head = head.flags ≡ read.flags
SoFar Cas read head = (head.flags ≡ read.flags) × (head.size ≡ read.size)
SoFar Count read head = Unit {0}

abbrev pub SameCas : Bool → Head → Head → Type 0
SameCas true read head = head.cas ≡ read.cas
SameCas false read head = Unit {0}

-- all numbers of the line have been read
abbrev pub AllRead : Tail → Bool → Head → Head → Type 0
AllRead tails.Nothing has read head = Unit {0}
AllRead tails.Text has read head = Unit {0}
AllRead tails.Value has read head = (head.flags ≡ read.flags) × (head.size ≡ read.size) × SameCas has read head
AllRead tails.Count has read head = head.count ≡ read.count

-- the rest of a word, and what is written behind it
pub record Goes (left : List ℕ) (Then : List ℕ → Type 0) (more : List ℕ) : Type 0 where
  pub after : List ℕ
  pub parts : more ≡ left ++ after
  pub rest : Then after

-- the rest of a number's digits, and what is written behind it
pub record Digits (limit value n : ℕ) (Then : List ℕ → Type 0) (more : List ℕ) : Type 0 where
  pub digits : List ℕ
  pub after : List ℕ
  pub parts : more ≡ digits ++ after
  pub are : IsDigits digits
  pub value_is : decimal_from value digits ≡ n
  pub within : n ≤ limit
  pub rest : Then after

-- what may follow in a part, for a line with these numbers
abbrev pub Follows : Word → Bool → List ℕ → Head → LinePart → Head → List ℕ → Type 0
Follows first has key read (BeforeName name) head more = Writes (word (name_text name first key) ∷ behind_name name first has key head) 0 more
Follows first has key read (InName name at) head more = Goes (drop at (name_text name first key)) (Writes (behind_name name first has key head) 1) more
Follows first has key read (BeforeNumber n) head more = SoFar n read head × Writes (number (limit_of n) (number_in n head) ∷ behind_number n has head) 0 more
Follows first has key read (InNumber n value) head more = SoFar n read head × Digits (limit_of n) value (number_in n head) (Writes (behind_number n has head) 1) more
Follows first has key read Blank head more = AllRead (tail_of first) has read head × IsBlank more
Follows first has key read Return head more = AllRead (tail_of first) has read head × (more ≡ [])
Follows first has key read Text head more = AllRead (tail_of first) has read head

-- how many bytes must be written for forms, at the least
abbrev pub fewest : List Form → ℕ → ℕ
fewest [] least = 0
fewest (word bytes ∷ forms) least = least + (length bytes + fewest forms 1)
fewest (number limit n ∷ forms) least = least + (1 + fewest forms 1)
fewest (text ∷ forms) least = 0

abbrev pub zero_head : Head
zero_head = record { flags = 0; size = 0; cas = 0; count = 0 }

-- how many bytes must follow in a part
abbrev pub needed : Word → Bool → List ℕ → LinePart → ℕ
needed first has key (BeforeName name) = fewest (word (name_text name first key) ∷ behind_name name first has key zero_head) 0
needed first has key (InName name at) = length (drop at (name_text name first key)) + fewest (behind_name name first has key zero_head) 1
needed first has key (BeforeNumber n) = 1 + fewest (behind_number n has zero_head) 1
needed first has key (InNumber n value) = fewest (behind_number n has zero_head) 1
needed first has key Blank = 0
needed first has key Return = 0
needed first has key Text = 0

-- a line begins with its word, but for one that is a number
abbrev pub is_worded : Tail → Bool
is_worded tails.Nothing = true
is_worded tails.Text = true
is_worded tails.Value = true
is_worded tails.Count = false

-- only the line of a value has a key and numbers behind its word, and a unique number only where one is asked for
abbrev pub HasName : Word → Name → Type 0
HasName first First = is_worded (tail_of first) ≡ true
HasName first Key = tail_of first ≡ tails.Value

abbrev pub HasNumber : Word → Bool → Number → Type 0
HasNumber first has Flags = tail_of first ≡ tails.Value
HasNumber first has Size = tail_of first ≡ tails.Value
HasNumber first has Cas = (tail_of first ≡ tails.Value) × (has ≡ true)
HasNumber first has Count = tail_of first ≡ tails.Count

-- and the value of a number so far is no more than its limit
abbrev pub IsValidAt : Word → Bool → LinePart → Type 0
IsValidAt first has (BeforeName name) = HasName first name
IsValidAt first has (InName name at) = HasName first name
IsValidAt first has (BeforeNumber n) = HasNumber first has n
IsValidAt first has (InNumber n value) = HasNumber first has n × (value ≤ limit_of n)
IsValidAt first has Blank = Unit {0}
IsValidAt first has Return = Unit {0}
IsValidAt first has Text = Unit {0}

abbrev pub IsValid : Bool → Candidate → Type 0
IsValid has c = IsValidAt c.first has c.part

-- a digit and its value
abbrev pub IsDigitOf : ℕ → Option ℕ → Type 0
IsDigitOf b None = (48 ≤ b) → (b ≤ 57) → ⊥
IsDigitOf b (Some d) = (48 ≤ b) × (b ≤ 57) × (d ≡ b - 48)

-- one byte on, where so many bytes must come: what may follow behind it there is what may follow here
pub record AdvancesOn (has : Bool) (key : List ℕ) (c : Candidate) (From : Head → List ℕ → Type 0) (need b : ℕ) (m : Advance) : Type 0 where
  pub on : (head : Head) (more : List ℕ) → From head (b ∷ more) → Follows m.next.first has key m.next.head m.next.part head more
  pub back : (head : Head) (more : List ℕ) → Follows m.next.first has key m.next.head m.next.part head more → From head (b ∷ more)
  pub first : m.next.first ≡ c.first
  pub spare : m.next.spare ≡ c.spare
  pub valid : IsValid has m.next
  pub needs : need + (if m.free then 1 else 0) ≡ needed m.next.first has key m.next.part + 1

abbrev pub Advances : Bool → List ℕ → Candidate → (Head → List ℕ → Type 0) → ℕ → ℕ → Option Advance → Type 0
Advances has key c From need b None = (head : Head) (more : List ℕ) → From head (b ∷ more) → ⊥
Advances has key c From need b (Some m) = AdvancesOn has key c From need b m

abbrev pub AdvancesAt : Bool → List ℕ → Candidate → LinePart → ℕ → Option Advance → Type 0
AdvancesAt has key c part b m = Advances has key c (λ head more. Follows c.first has key c.head part head more) (needed c.first has key part) b m

abbrev pub AdvancesBehindName : Bool → List ℕ → Candidate → Name → ℕ → Option Advance → Type 0
AdvancesBehindName has key c name b m = Advances has key c (λ head more. Writes (behind_name name c.first has key head) 1 more) (fewest (behind_name name c.first has key zero_head) 1) b m

abbrev pub AdvancesBehindNumber : Bool → List ℕ → Candidate → Number → ℕ → ℕ → Option Advance → Type 0
AdvancesBehindNumber has key c n value b m = Advances has key c (λ head more. SoFar n c.head head × (value ≡ number_in n head) × Writes (behind_number n has head) 1 more) (fewest (behind_number n has zero_head) 1) b m

-- what may follow a line that has come in part, for it to be one of the candidate's first word with these numbers
pub record Open (has : Bool) (key : List ℕ) (c : Candidate) (head : Head) (more : List ℕ) : Type 0 where
  pub follows : Follows c.first has key c.head c.part head more
  pub short : length more ≤ needed c.first has key c.part + c.spare
  pub no_end : All (λ b. b ≢ 10) more

-- the candidate after these bytes, or none where the line is not of its word
pub record ReadsOn (has : Bool) (key : List ℕ) (c : Candidate) (bytes : List ℕ) (next : Candidate) : Type 0 where
  pub on : (head : Head) (more : List ℕ) → Open has key c head (bytes ++ more) → Open has key next head more
  pub back : (head : Head) (more : List ℕ) → Open has key next head more → Open has key c head (bytes ++ more)
  pub first : next.first ≡ c.first
  pub valid : IsValid has next

abbrev pub Reads : Bool → List ℕ → Candidate → List ℕ → Option Candidate → Type 0
Reads has key c bytes None = (head : Head) (more : List ℕ) → Open has key c head (bytes ++ more) → ⊥
Reads has key c bytes (Some next) = ReadsOn has key c bytes next

-- whether the line may end here, and with which numbers
abbrev pub Ends : Bool → List ℕ → Candidate → Option Head → Type 0
Ends has key c None = (head : Head) → Follows c.first has key c.head c.part head [] → ⊥
Ends has key c (Some read) = Follows c.first has key c.head c.part read []

-- where a line begins
abbrev pub start_of : Tail → LinePart
start_of tails.Nothing = BeforeName First
start_of tails.Text = BeforeName First
start_of tails.Value = BeforeName First
start_of tails.Count = BeforeNumber Count

-- a line of which nothing has come
abbrev pub new_candidate : Bool → List ℕ → Word → Candidate
new_candidate has key first = record { first = first; part = start_of (tail_of first); head = zero_head; spare = 2048 - needed first has key (BeforeName First) }

-- a word that can be distinguished from spaces and the end of a line
abbrev pub is_clean : List ℕ → Bool
is_clean bytes = nat_lt 0 (length bytes) && list_all (λ b. nat_lt 32 b) bytes

-- the candidates are the lines that the text may become
pub record IsKept (row : Row) (key bytes : List ℕ) (candidates : List Candidate) : Type 0 where
  pub to : (first : Word) (head : Head) (more : List ℕ) → IsLine row key first head (bytes ++ more) → Any (λ c. (c.first ≡ first) × Open (has_cas row) key c head more) candidates
  pub back : All (λ c. (head : Head) (more : List ℕ) → Open (has_cas row) key c head more → IsLine row key c.first head (bytes ++ more)) candidates
  pub valid : All (IsValid (has_cas row)) candidates
  pub no_end : All (λ b. b ≢ 10) bytes

-- the line may end here, with this first word and these numbers, or it may not
abbrev pub Says : Row → List ℕ → List ℕ → Option Meaning → Type 0
Says row key line None = (first : Word) (head : Head) → IsLine row key first head line → ⊥
Says row key line (Some said) = IsLine row key said.first said.head line

-- bytes of a line without its LF: they go on, or no line does
abbrev pub GoesOn : Row → List ℕ → List ℕ → List ℕ → Result Unit ReplyFault → List ℕ → List Candidate → Type 0
GoesOn row key old bytes (Ok done) new candidates = (new ≡ old ++ bytes) × IsKept row key new candidates × (0 < length candidates)
GoesOn row key old bytes (Err faults.NotAReply) new candidates = (first : Word) (head : Head) (more : List ℕ) → IsLine row key first head ((old ++ bytes) ++ more) → ⊥
GoesOn row key old bytes (Err faults.Closed) new candidates = ⊥
GoesOn row key old bytes (Err faults.Memory) new candidates = Unit {0}
