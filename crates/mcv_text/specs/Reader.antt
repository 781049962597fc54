-- What the fields of a reader mean, and what one step of it does.
use Rattle.std.specs.Prelude.{◌≡◌, ◌≢◌, ℕ, ◌<◌, ◌≤◌, length, List, [], ◌∷◌, ◌++◌, take, Option, MatchOption, slice_index}
use Rattle.std.specs.List.{All}
use Rattle.mcv_text.specs.declared.item.Item.{Item}
use Rattle.mcv_text.specs.declared.item.Refusal.TheVariants as refusals
use Rattle.mcv_text.specs.declared.reader.State.{State}
use Rattle.mcv_text.specs.declared.reader.State.TheVariants as states
use Rattle.mcv_text.specs.declared.reader.ValueEnd.{ValueEnd}
use Rattle.mcv_text.specs.declared.reader.ValueEnd.TheVariants as ends
use Rattle.mcv_text.specs.Request.{AskValue, refused, header_value, item_value}
use Rattle.mcv_text.specs.Line.{meaning, stores}
use Rattle.mcv_text.specs.Stream.{Awaits, Held, Skips, Failed, IsLine, IsValuePart, AfterValue, First, followed}

-- the bytes of a line, and the state of what comes behind them
abbrev pub awaits_of : List ℕ → State → Awaits
awaits_of line states.Line = Held line
awaits_of line (states.Value v) = Held (line ++ 10 ∷ v.body.items)
awaits_of line (states.Skip n) = Skips n
awaits_of line states.Failed = Failed

abbrev pub IsKept : List ℕ → State → Type 0
IsKept line states.Line = IsLine line
IsKept line (states.Value v) = IsLine line × (v.size ≤ 1048576) × (meaning line ≡ stores (header_value v.header) v.size) × IsValuePart v.size v.body.items
IsKept line (states.Skip n) = (0 < n) × (line ≡ [])
IsKept line states.Failed = Unit {0}

-- from one state a piece leads to the next and the piece's rest, by one item or by none
abbrev pub Steps : Awaits → List ℕ → Option Item → Awaits → List ℕ → Type 0
Steps from piece item to rest = MatchOption item (followed to rest ≡ followed from piece) (λ i. First (followed from piece) (item_value i) (followed to rest))

-- the first LF of the bytes is at this place
pub record EndsAt (bytes : List ℕ) (end : ℕ) : Type 0 where
  pub within : end < length bytes
  pub before : All (λ b. b ≢ 10) (take end bytes)
  pub at : slice_index bytes end ≡ 10

-- how far a value of n bytes has come in the bytes behind its line
abbrev pub EndsValue : ValueEnd → ℕ → List ℕ → Type 0
EndsValue ends.Part n bytes = IsValuePart n bytes
EndsValue ends.Wrong n bytes = (ask : AskValue) (more : List ℕ) → AfterValue ask n (bytes ++ more) (refused refusals.BadDataChunk) Failed
EndsValue ends.Whole n bytes = (length (take n bytes) ≡ n) × (bytes ≡ take n bytes ++ 13 ∷ 10 ∷ [])
