-- Each text has a text without its comments, or a comment that doesn't end.
use Rattle.std.proofs.Common.{◌≡◌, ◌≢◌, ◌⊎◌, ℕ, zero, suc, ◌<◌, ◌≤◌, List, [], ◌∷◌, ◌++◌, length, get_or, All, refl, ap, ◌∙◌, length-append, inl, inr, arith}
use Rattle.std.proofs.lemmas.Bool.{cases_eq}
use Rattle.std.proofs.lemmas.List.Elements.{All-nil, All-cons}
use Rattle.mcv_comments.specs.Comments.{Piece, plain, quoted, unended, block, line, remains, IsInside, HasNoQuote, HasNoEnd, Begins, Strips, OpensBlock, IsOpen}
use Rattle.mcv_comments.proofs.Insides.{inside_byte, inside_escape, never_nil, never_byte, never_escape, never_last}
use Rattle.mcv_comments.proofs.Pieces.{strips_none, strips_on, one_piece}

-- what comes before the quote that ends a text, and behind it
pub data QuoteEnds (body : List ℕ) : Type 0 where
  no_quote_ends : HasNoQuote body → QuoteEnds body
  quote_ends_it : (inside rest : List ℕ) → body ≡ inside ++ 34 ∷ rest → IsInside inside → QuoteEnds body

quote_byte : (b : ℕ) (body : List ℕ) → b ≢ 34 → b ≢ 92 → QuoteEnds body → QuoteEnds (b ∷ body)
quote_byte b body no_quote no_backslash (no_quote_ends h) = no_quote_ends (never_byte b body no_quote no_backslash h)
quote_byte b body no_quote no_backslash (quote_ends_it inside rest e is) = quote_ends_it (b ∷ inside) rest (ap (λ t. b ∷ t) e) (inside_byte b inside no_quote no_backslash is)

quote_escape : (b c : ℕ) (body : List ℕ) → b ≡ 92 → QuoteEnds body → QuoteEnds (b ∷ c ∷ body)
quote_escape b c body backslash (no_quote_ends h) = no_quote_ends (never_escape b c body backslash h)
quote_escape b c body backslash (quote_ends_it inside rest e is) = quote_ends_it (b ∷ c ∷ inside) rest (ap (λ t. b ∷ c ∷ t) e) (inside_escape b c inside backslash is)

quote_ends : (body : List ℕ) → QuoteEnds body
quote_ends [] = no_quote_ends never_nil
quote_ends (b ∷ []) =
    elim (cases_eq b 34) as (λ w. QuoteEnds (b ∷ [])) [
      | inl quote ↦ quote_ends_it [] [] (ap (λ t. t ∷ []) quote) tt
      | inr no_quote ↦ elim (cases_eq b 92) as (λ w. QuoteEnds (b ∷ [])) [
        | inl backslash ↦ no_quote_ends (never_last b backslash)
        | inr no_backslash ↦ quote_byte b [] no_quote no_backslash (no_quote_ends never_nil)
      ]
    ]
quote_ends (b ∷ c ∷ body) =
    elim (cases_eq b 34) as (λ w. QuoteEnds (b ∷ c ∷ body)) [
      | inl quote ↦ quote_ends_it [] (c ∷ body) (ap (λ t. t ∷ c ∷ body) quote) tt
      | inr no_quote ↦ elim (cases_eq b 92) as (λ w. QuoteEnds (b ∷ c ∷ body)) [
        | inl backslash ↦ quote_escape b c body backslash (quote_ends body)
        | inr no_backslash ↦ quote_byte b (c ∷ body) no_quote no_backslash (quote_ends (c ∷ body))
      ]
    ]

no_end_nil : (front more : List ℕ) → [] ≡ front ++ 42 ∷ 47 ∷ more → ⊥
no_end_nil [] more e = absurd (cc)
no_end_nil (b ∷ front) more e = absurd (cc)

no_end_byte : (b : ℕ) (body : List ℕ) → (b ≡ 42 → get_or body 0 0 ≡ 47 → ⊥) → HasNoEnd body → (front more : List ℕ) → b ∷ body ≡ front ++ 42 ∷ 47 ∷ more → ⊥
no_end_byte b body apart later [] more e =
    let star : b ≡ 42 = cc in
    apart star (ap (λ t. get_or t 1 0) e)
no_end_byte b body apart later (c ∷ front) more e =
    let tails : body ≡ front ++ 42 ∷ 47 ∷ more = cc in
    later front more tails

-- the same of a block
pub data BlockEnds (body : List ℕ) : Type 0 where
  no_block_end : HasNoEnd body → BlockEnds body
  block_end_at : (comment rest : List ℕ) → body ≡ comment ++ 42 ∷ 47 ∷ rest → HasNoEnd comment → BlockEnds body

-- a comment goes on with the byte that its text goes on with
next_byte : (c : ℕ) (body comment rest : List ℕ) → c ∷ body ≡ comment ++ 42 ∷ 47 ∷ rest → get_or comment 0 0 ≡ 47 → c ≡ 47
next_byte c body [] rest e is = absurd (omega (arith, is))
next_byte c body (d ∷ comment) rest e is =
    let heads : c ≡ d = cc in
    heads ∙ is

block_byte : (b c : ℕ) (body : List ℕ) → (b ≡ 42 → c ≡ 47 → ⊥) → BlockEnds (c ∷ body) → BlockEnds (b ∷ c ∷ body)
block_byte b c body apart (no_block_end h) = no_block_end (no_end_byte b (c ∷ body) apart h)
block_byte b c body apart (block_end_at comment rest e h) =
    block_end_at (b ∷ comment) rest (ap (λ t. b ∷ t) e) (no_end_byte b comment (λ star slash. apart star (next_byte c body comment rest e slash)) h)

block_ends : (body : List ℕ) → BlockEnds body
block_ends [] = no_block_end no_end_nil
block_ends (b ∷ []) = no_block_end (no_end_byte b [] (λ star slash. omega (arith, slash)) no_end_nil)
block_ends (b ∷ c ∷ body) =
    elim (cases_eq b 42) as (λ w. BlockEnds (b ∷ c ∷ body)) [
      | inl star ↦ elim (cases_eq c 47) as (λ w. BlockEnds (b ∷ c ∷ body)) [
        | inl slash ↦ block_end_at [] body (ap (λ t. t ∷ c ∷ body) star ∙ ap (λ t. 42 ∷ t ∷ body) slash) no_end_nil
        | inr no_slash ↦ block_byte b c body (λ _ slash. no_slash slash) (block_ends (c ∷ body))
      ]
      | inr no_star ↦ block_byte b c body (λ star _. no_star star) (block_ends (c ∷ body))
    ]

-- the line that a text begins with, and what comes behind it
abbrev pub LineEnds : List ℕ → Type 0
LineEnds body = (comment : List ℕ) × (rest : List ℕ) × (body ≡ comment ++ rest) × All (λ b. b ≢ 10) comment × ((rest ≡ []) ⊎ (get_or rest 0 0 ≡ 10))

line_ends : (body : List ℕ) → LineEnds body
line_ends [] = ([], [], refl, All-nil (λ b. b ≢ 10), inl refl)
line_ends (b ∷ body) =
    elim (cases_eq b 10) as (λ w. LineEnds (b ∷ body)) [
      | inl lf ↦ ([], b ∷ body, refl, All-nil (λ b. b ≢ 10), inr lf)
      | inr no_lf ↦ let later = line_ends body in (b ∷ later.0, later.1, ap (λ t. b ∷ t) later.2, All-cons (λ b. b ≢ 10) b later.0 no_lf later.3, later.4)
    ]

-- the front of a text
pub data Fronts (text : List ℕ) : Type 0 where
  front_opens : OpensBlock text → Fronts text
  front_passes : (rest : List ℕ) (p : Piece) → Begins text p rest → length rest < length text → Fronts text

front_quote : (b : ℕ) (more : List ℕ) → b ≡ 34 → QuoteEnds more → Fronts (b ∷ more)
front_quote b more quote (no_quote_ends h) = front_passes [] (unended more) (ap (λ t. t ∷ more) quote, h, refl) (omega arith)
front_quote b more quote (quote_ends_it inside rest e is) =
    front_passes rest (quoted inside) (ap (λ t. t ∷ more) quote ∙ ap (λ t. 34 ∷ t) e, is) (omega (arith, ap length e, length-append inside (34 ∷ rest)))

front_block : (b c : ℕ) (body : List ℕ) → b ≡ 47 → c ≡ 42 → BlockEnds body → Fronts (b ∷ c ∷ body)
front_block b c body slash star (no_block_end h) = front_opens (body, ap (λ t. t ∷ c ∷ body) slash ∙ ap (λ t. 47 ∷ t ∷ body) star, h)
front_block b c body slash star (block_end_at comment rest e h) =
    front_passes rest (block comment) (ap (λ t. t ∷ c ∷ body) slash ∙ ap (λ t. 47 ∷ t ∷ body) star ∙ ap (λ t. 47 ∷ 42 ∷ t) e, h)
    (omega (arith, ap length e, length-append comment (42 ∷ 47 ∷ rest)))

front_line : (b c : ℕ) (body : List ℕ) → b ≡ 47 → c ≡ 47 → Fronts (b ∷ c ∷ body)
front_line b c body slash second =
    let ends = line_ends body in
    front_passes ends.1 (line ends.0) (ap (λ t. t ∷ c ∷ body) slash ∙ ap (λ t. 47 ∷ t ∷ body) second ∙ ap (λ t. 47 ∷ 47 ∷ t) ends.2, ends.3, ends.4)
    (omega (arith, ap length ends.2, length-append ends.0 ends.1))

front_plain : (b : ℕ) (more : List ℕ) → b ≢ 34 → (b ≡ 47 → (get_or more 0 0 ≢ 42) × (get_or more 0 0 ≢ 47)) → Fronts (b ∷ more)
front_plain b more no_quote no_comment = front_passes more (plain b) (refl, no_quote, no_comment) (omega arith)

front_slash : (b : ℕ) (more : List ℕ) → b ≡ 47 → b ≢ 34 → Fronts (b ∷ more)
front_slash b [] slash no_quote = front_plain b [] no_quote (λ _. (λ e. omega (arith, e), λ e. omega (arith, e)))
front_slash b (c ∷ body) slash no_quote =
    elim (cases_eq c 42) as (λ w. Fronts (b ∷ c ∷ body)) [
      | inl star ↦ front_block b c body slash star (block_ends body)
      | inr no_star ↦ elim (cases_eq c 47) as (λ w. Fronts (b ∷ c ∷ body)) [
        | inl second ↦ front_line b c body slash second
        | inr no_second ↦ front_plain b (c ∷ body) no_quote (λ _. (no_star, no_second))
      ]
    ]

fronts : (b : ℕ) (more : List ℕ) → Fronts (b ∷ more)
fronts b more =
    elim (cases_eq b 34) as (λ w. Fronts (b ∷ more)) [
      | inl quote ↦ front_quote b more quote (quote_ends more)
      | inr no_quote ↦ elim (cases_eq b 47) as (λ w. Fronts (b ∷ more)) [
        | inl slash ↦ front_slash b more slash no_quote
        | inr no_slash ↦ front_plain b more no_quote (λ slash. absurd (no_slash slash))
      ]
    ]

after_piece : (text rest : List ℕ) (p : Piece) → Begins text p rest → IsOpen rest ⊎ ((out : List ℕ) × Strips rest out) → IsOpen text ⊎ ((out : List ℕ) × Strips text out)
after_piece text rest p begins (inl is) = inl (is.0, remains p ++ is.1, strips_on text rest is.0 (remains p) is.1 (one_piece text rest (remains p) p begins refl) is.2, is.3)
after_piece text rest p begins (inr strips) = inr (remains p ++ strips.0, strips_on text rest [] (remains p) strips.0 (one_piece text rest (remains p) p begins refl) strips.1)

after_front : (n : ℕ) (text : List ℕ) → length text ≤ suc n → ((rest : List ℕ) → length rest ≤ n → IsOpen rest ⊎ ((out : List ℕ) × Strips rest out)) → Fronts text → IsOpen text ⊎ ((out : List ℕ) × Strips text out)
after_front n text short later (front_opens opens) = inl (text, [], strips_none text, opens)
after_front n text short later (front_passes rest p begins less) = after_piece text rest p begins (later rest (omega arith))

one_more : (n : ℕ) (text : List ℕ) → length text ≤ suc n → ((rest : List ℕ) → length rest ≤ n → IsOpen rest ⊎ ((out : List ℕ) × Strips rest out)) → IsOpen text ⊎ ((out : List ℕ) × Strips text out)
one_more n [] short later = inr ([], strips_none [])
one_more n (b ∷ more) short later = after_front n (b ∷ more) short later (fronts b more)

none_left : (text : List ℕ) → length text ≤ 0 → IsOpen text ⊎ ((out : List ℕ) × Strips text out)
none_left [] short = inr ([], strips_none [])
none_left (b ∷ more) short = absurd (omega (arith, short))

strips_or_open : (n : ℕ) (text : List ℕ) → length text ≤ n → IsOpen text ⊎ ((out : List ℕ) × Strips text out)
strips_or_open zero text short = none_left text short
strips_or_open (suc n) text short = one_more n text short (λ rest less. strips_or_open n rest less)

pub each_text : (text : List ℕ) → IsOpen text ⊎ ((out : List ℕ) × Strips text out)
each_text text = strips_or_open (length text) text (omega arith)
