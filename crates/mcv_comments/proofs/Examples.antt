-- Small texts and their pieces.
use Rattle.std.proofs.Common.{◌≡◌, ◌≢◌, ℕ, suc, ◌+◌, List, [], ◌∷◌, length, refl, ap, ◌∙◌, length-append, inl, inr, arith}
use Rattle.std.proofs.lemmas.List.Elements.{All-nil, All-cons}
use Rattle.mcv_comments.specs.Comments.{plain, quoted, block, line, HasNoEnd, Begins, Strips, IsOpen}

no_end_one : (b : ℕ) → HasNoEnd (b ∷ [])
no_end_one b = λ front more e.
    let len : 1 ≡ length front + suc (suc (length more)) = ap length e ∙ length-append front (42 ∷ 47 ∷ more) in
    omega (arith, len)

letter : (b : ℕ) (after : List ℕ) → b ≢ 34 → b ≢ 47 → Begins (b ∷ after) (plain b) after
letter b after no_quote no_slash = (refl, no_quote, λ slash. absurd (no_slash slash))

-- a comment in a block is a space: 1/*x*/2
block_is_a_space : Strips (49 ∷ 47 ∷ 42 ∷ 120 ∷ 42 ∷ 47 ∷ 50 ∷ []) (49 ∷ 32 ∷ 50 ∷ [])
block_is_a_space = (
  plain 49 ∷ block (120 ∷ []) ∷ plain 50 ∷ [],
  (
    47 ∷ 42 ∷ 120 ∷ 42 ∷ 47 ∷ 50 ∷ [],
    letter 49 (47 ∷ 42 ∷ 120 ∷ 42 ∷ 47 ∷ 50 ∷ []) (λ e. omega (arith, e)) (λ e. omega (arith, e)),
    (50 ∷ [], (refl, no_end_one 120), ([], letter 50 [] (λ e. omega (arith, e)) (λ e. omega (arith, e)), refl)),
  ),
  refl,
)

-- the LF behind a comment stays: 1//x and 2 on the next line
line_keeps_its_end : Strips (47 ∷ 47 ∷ 120 ∷ 10 ∷ 50 ∷ []) (10 ∷ 50 ∷ [])
line_keeps_its_end = (
  line (120 ∷ []) ∷ plain 10 ∷ plain 50 ∷ [],
  (
    10 ∷ 50 ∷ [],
    (refl, All-cons (λ b. b ≢ 10) 120 [] (λ e. omega (arith, e)) (All-nil (λ b. b ≢ 10)), inr refl),
    (
      50 ∷ [],
      letter 10 (50 ∷ []) (λ e. omega (arith, e)) (λ e. omega (arith, e)),
      ([], letter 50 [] (λ e. omega (arith, e)) (λ e. omega (arith, e)), refl),
    ),
  ),
  refl,
)

-- an escaped quote doesn't end a text, and two slashes in it begin no comment: "\"//"
text_stays : Strips (34 ∷ 92 ∷ 34 ∷ 47 ∷ 47 ∷ 34 ∷ []) (34 ∷ 92 ∷ 34 ∷ 47 ∷ 47 ∷ 34 ∷ [])
text_stays = (
  quoted (92 ∷ 34 ∷ 47 ∷ 47 ∷ []) ∷ [],
  (
    [],
    (refl, inl (refl, inr (λ e. omega (arith, e), λ e. omega (arith, e), (λ e. omega (arith, e), λ e. omega (arith, e))))),
    refl,
  ),
  refl,
)

-- the star of a comment doesn't end it: /*/
own_star : IsOpen (47 ∷ 42 ∷ 47 ∷ [])
own_star = (47 ∷ 42 ∷ 47 ∷ [], [], ([], refl, refl), (47 ∷ [], refl, no_end_one 47))
