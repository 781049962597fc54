use Rattle.std.proofs.Common.{◌<◌, ◌≤◌, ℕ, List, ◌∷◌, length, drop, subst, arith}
use Rattle.std.proofs.lemmas.List.{length-drop}
use Rattle.mcv_comments.specs.Comments.{Begins, block, line}
use Rattle.mcv_comments.proofs.Pieces.{rest_of, two_front, block_front, line_front}
use Rattle.mcv_comments.proofs.front.front_of.Goals as goal

pub returns-in_ok-rest-in-Block : goal.returns-in_ok-rest-in-Block
returns-in_ok-rest-in-Block c =
    let text = c.args.text.now in
    let rest = c.in_ok-rest-in-Block.rest.now in
    let found = subst (λ (t : List ℕ). ((comment : List ℕ) × Begins (47 ∷ 42 ∷ t) (block comment) rest) × (length rest ≤ length t)) (rest_of text 2) c.in_ok-rest-in-Block.ensures in
    let long : 1 < length text = c.in-Block.ensures.0 in
    let shorter : length rest ≤ length (drop 2 text) = found.1 in (
      block_front text (drop 2 text) rest (two_front text 47 42 c.in-Block.ensures.1 c.in-Block.ensures.2 (omega arith)) found.0,
      omega (arith, length-drop 2 text),
    )

pub returns-in-Line : goal.returns-in-Line
returns-in-Line c =
    let text = c.args.text.now in
    let rest = c.behind_line-rest.result.now in
    let found = subst (λ (t : List ℕ). ((comment : List ℕ) × Begins (47 ∷ 47 ∷ t) (line comment) rest) × (length rest ≤ length t)) (rest_of text 2) (c.behind_line-rest.ensures.comment, c.behind_line-rest.ensures.within) in
    let long : 1 < length text = c.in-Line.ensures.0 in
    let shorter : length rest ≤ length (drop 2 text) = found.1 in (
      line_front text (drop 2 text) rest (two_front text 47 47 c.in-Line.ensures.1 c.in-Line.ensures.2 (omega arith)) found.0,
      omega (arith, length-drop 2 text),
    )
