use Rattle.std.proofs.Common.{◌≡◌, ◌-◌, ℕ, List, [], ◌∷◌, length, take, drop, sym, subst, ◌∙◌, arith}
use Rattle.std.proofs.lemmas.List.{drop_all}
use Rattle.mcv_comments.specs.Comments.{Begins, line}
use Rattle.mcv_comments.proofs.CommentEnds.{line_found, line_all}
use Rattle.mcv_comments.proofs.Pieces.{rest_of}
use Rattle.mcv_comments.proofs.front.behind_line.Goals as goal

pub returns-in-Some-clause-comment : goal.returns-in-Some-clause-comment
returns-in-Some-clause-comment c =
    let body = c.args.body.now in
    let end = c.in-Some.end in
    subst (λ (t : List ℕ). (comment : List ℕ) × Begins (47 ∷ 47 ∷ body) (line comment) t) (sym (rest_of body end))
    (take end body, line_found body end c.in-Some.ensures)

pub returns-in-None-clause-comment : goal.returns-in-None-clause-comment
returns-in-None-clause-comment c =
    let body = c.args.body.now in
    let size = length body in
    let empty : take (size - size) (drop size body) ≡ [] = rest_of body size ∙ drop_all size body (omega arith) in
    (body, line_all body (take (size - size) (drop size body)) c.in-None.ensures empty)
