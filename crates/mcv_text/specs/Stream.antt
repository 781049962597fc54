-- The items of a stream of bytes: lines, each with its value where it has one, one behind the other (memcached, protocol.txt; the limits and what is refused are own).
use Rattle.std.specs.Prelude.{◌≡◌, ◌≢◌, ℕ, ◌+◌, ◌-◌, ◌<◌, ◌≤◌, List, [], ◌∷◌, ◌++◌, length, take, drop, nat_lt, if◌then◌else◌, ◌⊎◌}
use Rattle.std.specs.List.{All}
use Rattle.mcv_text.specs.declared.item.Refusal.TheVariants as refusals
use Rattle.mcv_text.specs.Request.{AskValue, asking, ItemValue, asked, refused, with_body}
use Rattle.mcv_text.specs.Line.{LineValue, meaning, whole, stores, unknown, bad, too_large}

-- what a reader awaits the end of: the item that begins with these bytes, a number of bytes to skip, or nothing, having failed
pub data Awaits : Type 0 where
  Held : List ℕ → Awaits
  Skips : ℕ → Awaits
  Failed : Awaits

-- what it is once more bytes have come; bytes to skip are dropped from their front
abbrev pub followed : Awaits → List ℕ → Awaits
followed (Held bytes) piece = Held (bytes ++ piece)
followed (Skips n) piece = if nat_lt (length piece) n then Skips (n - length piece) else Held (drop n piece)
followed Failed piece = Failed

-- a line without its LF; a CR counts
pub record IsLine (bytes : List ℕ) : Type 0 where
  pub no_end : All (λ b. b ≢ 10) bytes
  pub short : length bytes ≤ 65536

-- behind a storing line: the value with CR LF, or the first wrong byte behind the value
pub data AfterValue (ask : AskValue) (n : ℕ) (bytes : List ℕ) : ItemValue → Awaits → Type 0 where
  stored : (value more : List ℕ) → length value ≡ n → bytes ≡ value ++ 13 ∷ 10 ∷ more → AfterValue ask n bytes (asked (asking (with_body ask value))) (Held more)
  no_cr : (value more : List ℕ) (b : ℕ) → length value ≡ n → b ≢ 13 → bytes ≡ value ++ b ∷ more → AfterValue ask n bytes (refused refusals.BadDataChunk) Failed
  no_lf : (value more : List ℕ) (b : ℕ) → length value ≡ n → b ≢ 10 → bytes ≡ value ++ 13 ∷ b ∷ more → AfterValue ask n bytes (refused refusals.BadDataChunk) Failed

-- less than a value of n bytes and CR LF
abbrev pub IsValuePart : ℕ → List ℕ → Type 0
IsValuePart n bytes = (length bytes ≤ n) ⊎ ((value : List ℕ) × (length value ≡ n) × (bytes ≡ value ++ 13 ∷ []))

-- what a line gives, with the bytes behind its LF
abbrev pub AfterLine : LineValue → List ℕ → ItemValue → Awaits → Type 0
AfterLine (whole r) bytes item rest = (item ≡ asked r) × (rest ≡ Held bytes)
AfterLine (stores ask n) bytes item rest = AfterValue ask n bytes item rest
AfterLine unknown bytes item rest = (item ≡ refused refusals.UnknownCommand) × (rest ≡ Held bytes)
AfterLine bad bytes item rest = (item ≡ refused refusals.BadLine) × (rest ≡ Failed)
AfterLine (too_large n) bytes item rest = (item ≡ refused refusals.ValueTooLarge) × (rest ≡ followed (Skips (n + 2)) bytes)

-- the bytes begin with this item, and this comes behind it: a line's item, or the refusal of a line at its 65,537th byte
pub data Begins (bytes : List ℕ) (item : ItemValue) (rest : Awaits) : Type 0 where
  by_line : (l more : List ℕ) → IsLine l → bytes ≡ l ++ 10 ∷ more → AfterLine (meaning l) more item rest → Begins bytes item rest
  too_long : 65536 < length bytes → All (λ b. b ≢ 10) (take 65537 bytes) → item ≡ refused refusals.BadLine → rest ≡ Failed → Begins bytes item rest

abbrev pub WaitsForValue : LineValue → List ℕ → Type 0
WaitsForValue (whole r) bytes = ⊥
WaitsForValue (stores ask n) bytes = IsValuePart n bytes
WaitsForValue unknown bytes = ⊥
WaitsForValue bad bytes = ⊥
WaitsForValue (too_large n) bytes = ⊥

-- no item has ended in the bytes
pub data IsUnfinished (bytes : List ℕ) : Type 0 where
  in_line : IsLine bytes → IsUnfinished bytes
  in_value : (l more : List ℕ) → IsLine l → bytes ≡ l ++ 10 ∷ more → WaitsForValue (meaning l) more → IsUnfinished bytes

abbrev pub Rests : Awaits → Type 0
Rests (Held bytes) = IsUnfinished bytes
Rests (Skips n) = 0 < n
Rests Failed = Unit {0}

abbrev pub First : Awaits → ItemValue → Awaits → Type 0
First (Held bytes) item rest = Begins bytes item rest
First (Skips n) item rest = ⊥
First Failed item rest = ⊥

-- the items that are there, one behind the other, and what is left
abbrev pub Reads : Awaits → List ItemValue → Awaits → Type 0
Reads from [] rest = Rests from × (rest ≡ from)
Reads from (item ∷ items) rest = (next : Awaits) × First from item next × Reads next items rest

-- refusals 2 and 3, behind which nothing is read
abbrev pub IsEnding : ItemValue → Type 0
IsEnding item = (item ≡ refused refusals.BadLine) ⊎ (item ≡ refused refusals.BadDataChunk)

-- the last item is one of them
abbrev pub EndsRefused : List ItemValue → Type 0
EndsRefused [] = ⊥
EndsRefused (item ∷ []) = IsEnding item
EndsRefused (item ∷ next ∷ items) = EndsRefused (next ∷ items)
