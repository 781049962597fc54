use Rattle.std.proofs.Common.{◌≡◌, ◌<◌, ℕ, List, length, get_or, take, subst}
use Rattle.mcv_comments.specs.Comments.{HasNoQuote, IsInside}
use Rattle.mcv_comments.proofs.Pieces.{rest_of, text_front, text_all}
use Rattle.mcv_comments.proofs.front.text_len.Goals as goal

pub returns-in-Some-clause-kept : goal.returns-in-Some-clause-kept
returns-in-Some-clause-kept c =
    let text = c.args.text.now in
    let end = c.in-Some.end in
    let ends = subst (λ (t : List ℕ). (end < length t) × (get_or t end 0 ≡ 34) × IsInside (take end t)) (rest_of text 1) c.in-Some.ensures in
    text_front text end c.requires.1 ends.0 ends.1 ends.2

pub returns-in-None-clause-kept : goal.returns-in-None-clause-kept
returns-in-None-clause-kept c =
    let text = c.args.text.now in
    text_all text c.requires.1 (subst (λ (t : List ℕ). HasNoQuote t) (rest_of text 1) c.in-None.ensures)
