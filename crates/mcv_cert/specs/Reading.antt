-- What a text says: the window and the pairs of a certificate, or where it is at fault (own).
use Rattle.std.specs.Prelude.{◌≡◌, ◌≢◌, ℕ, ◌+◌, ◌<◌, ◌≤◌, ◌^◌, false, List, [], ◌∷◌, ◌++◌, length, All}
use Rattle.std.specs.List.{flat_map}
use Rattle.mcv_cert.specs.Pair.{PairValue, AreRising, IsPair, is_behind}
use Rattle.mcv_cert.specs.Text.{first_line, last_line, pair_line}

pub data Reading : Type 0 where
  pairs : (window : ℕ) → List PairValue → Reading
  -- the line of this number, from 1, breaks the form, or is missing
  broken : (line : ℕ) → Reading
  -- the pair in the line of this number doesn't come behind those before it
  unordered : (line : ℕ) → Reading
  too_long : Reading

-- the most bytes of a certificate's text
abbrev pub text_limit : ℕ
text_limit = 268435456

-- neither the line of a pair nor the last line is at the front of the text
pub record IsNoLine (w : ℕ) (text : List ℕ) : Type 0 where
  pub pair : (p : PairValue) (more : List ℕ) → IsPair w p → text ≢ pair_line w p ++ more
  pub last : (more : List ℕ) → text ≢ last_line ++ more

-- nothing may come behind the last line
abbrev pub at_end : ℕ → List PairValue → List ℕ → Reading
at_end w ps [] = pairs w ps
at_end w ps (b ∷ bs) = broken (length ps + 3)

-- what is said where lines of pairs were read and the rest is left: its first line has the number `length ps + 2`
pub data Stops (w : ℕ) (ps : List PairValue) (rest : List ℕ) : Reading → Type 0 where
  ended : (more : List ℕ) → rest ≡ last_line ++ more → Stops w ps rest (at_end w ps more)
  breaks : IsNoLine w rest → Stops w ps rest (broken (length ps + 2))
  falls : (p : PairValue) (more : List ℕ) → IsPair w p → rest ≡ pair_line w p ++ more → is_behind ps p ≡ false → Stops w ps rest (unordered (length ps + 2))

-- what is said behind the first line: lines of pairs that rise, and a rest at which the reading stops
pub record Reads (w : ℕ) (body : List ℕ) (r : Reading) : Type 0 where
  pub ps : List PairValue
  pub rest : List ℕ
  pub lines : body ≡ flat_map (pair_line w) ps ++ rest
  pub are_pairs : All (IsPair w) ps
  pub rising : AreRising ps
  pub stops : Stops w ps rest r

pub data Says (text : List ℕ) : Reading → Type 0 where
  over : text_limit < length text → Says text too_long
  headless : length text ≤ text_limit → ((w : ℕ) (body : List ℕ) → w < 2 ^ 64 → text ≢ first_line w ++ body) → Says text (broken 1)
  reads : (w : ℕ) (body : List ℕ) (r : Reading) → w < 2 ^ 64 → length text ≤ text_limit → text ≡ first_line w ++ body → Reads w body r → Says text r
