use Rattle.std.proofs.Common.{◌≡◌, ◌+◌, ◌-◌, ℕ, List, ◌∷◌, length, take, drop, ap, sym, subst, arith}
use Rattle.std.proofs.lemmas.List.{length-drop}
use Rattle.mcv_comments.specs.Comments.{Begins, block}
use Rattle.mcv_comments.proofs.CommentEnds.{no_end_found, block_found}
use Rattle.mcv_comments.proofs.Pieces.{rest_of}
use Rattle.mcv_comments.proofs.front.behind_block.Goals as goal

pub returns-in_err-end : goal.returns-in_err-end
returns-in_err-end c = rw c.from_residual.ensures (no_end_found c.args.body.now c.in_err-end.ensures)

pub returns : goal.returns
returns c =
    let body = c.args.body.now in
    let end = c.in_ok-end.end in
    let borrowed : take (length body - (end + 2)) (drop (end + 2) body) ≡ drop (end + 2) body = rest_of body (end + 2) in (
      subst (λ (t : List ℕ). (comment : List ℕ) × Begins (47 ∷ 42 ∷ body) (block comment) t) (sym borrowed)
          (take end body, block_found body end c.in_ok-end.ensures),
      omega (arith, ap length borrowed, length-drop (end + 2) body),
    )
