-- A text of JSON without its comments, `/* .. */` and `//` up to the end of the line (mcrouter's configurations have both, as C has; where a text between quotes ends is RFC 8259; what a comment leaves is own).
use Rattle.std.specs.Prelude.{◌≡◌, ◌≢◌, ◌⊎◌, ℕ, List, [], ◌∷◌, ◌++◌, slice_index}
use Rattle.std.specs.List.{flat_map, All}

-- a byte outside texts and comments, what is between the quotes of a text, a text that never ends, what is between `/*` and `*/`, what comes behind `//`
pub data Piece : Type 0 where
  plain : ℕ → Piece
  quoted : List ℕ → Piece
  unended : List ℕ → Piece
  block : List ℕ → Piece
  line : List ℕ → Piece

-- a block leaves a space, a line nothing
abbrev pub remains : Piece → List ℕ
remains (plain b) = b ∷ []
remains (quoted body) = 34 ∷ body ++ 34 ∷ []
remains (unended body) = 34 ∷ body
remains (block body) = 32 ∷ []
remains (line body) = []

-- what may be between the quotes of a text: each quote and each backslash is behind a backslash that escapes it
abbrev pub IsInside : List ℕ → Type 0
IsInside [] = Unit {0}
IsInside (b ∷ []) = (b ≢ 34) × (b ≢ 92)
IsInside (b ∷ c ∷ bytes) = ((b ≡ 92) × IsInside bytes) ⊎ ((b ≢ 34) × (b ≢ 92) × IsInside (c ∷ bytes))

-- no quote in the bytes ends the text that they are in
abbrev pub HasNoQuote : List ℕ → Type 0
HasNoQuote bytes = (inside more : List ℕ) → IsInside inside → bytes ≢ inside ++ 34 ∷ more

-- `*/` isn't in the bytes
abbrev pub HasNoEnd : List ℕ → Type 0
HasNoEnd bytes = (front more : List ℕ) → bytes ≢ front ++ 42 ∷ 47 ∷ more

-- the text begins with this piece, and `after` comes behind it
abbrev pub Begins : List ℕ → Piece → List ℕ → Type 0
Begins text (plain b) after = (text ≡ b ∷ after) × (b ≢ 34) × (b ≡ 47 → (slice_index after 0 ≢ 42) × (slice_index after 0 ≢ 47))
Begins text (quoted body) after = (text ≡ 34 ∷ body ++ 34 ∷ after) × IsInside body
Begins text (unended body) after = (text ≡ 34 ∷ body) × HasNoQuote body × (after ≡ [])
Begins text (block body) after = (text ≡ 47 ∷ 42 ∷ body ++ 42 ∷ 47 ∷ after) × HasNoEnd body
Begins text (line body) after = (text ≡ 47 ∷ 47 ∷ body ++ after) × All (λ b. b ≢ 10) body × ((after ≡ []) ⊎ (slice_index after 0 ≡ 10))

-- the text is these pieces, one behind the other, and then `rest`
abbrev pub Reads : List ℕ → List Piece → List ℕ → Type 0
Reads text [] rest = text ≡ rest
Reads text (p ∷ ps) rest = (after : List ℕ) × Begins text p after × Reads after ps rest

-- `out` remains of the pieces that come before `rest`
abbrev pub StripsTo : List ℕ → List ℕ → List ℕ → Type 0
StripsTo text rest out = (ps : List Piece) × Reads text ps rest × (out ≡ flat_map remains ps)

-- `out` is the text without its comments
abbrev pub Strips : List ℕ → List ℕ → Type 0
Strips text out = StripsTo text [] out

-- a `/*` with no `*/` behind it
abbrev pub OpensBlock : List ℕ → Type 0
OpensBlock text = (body : List ℕ) × (text ≡ 47 ∷ 42 ∷ body) × HasNoEnd body

-- the pieces of the text come to a comment that doesn't end
abbrev pub IsOpen : List ℕ → Type 0
IsOpen text = (rest : List ℕ) × (out : List ℕ) × StripsTo text rest out × OpensBlock rest
