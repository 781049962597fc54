use Rattle.std.proofs.Common.{ℕ, List, drop, None, Some, subst}
use Rattle.memchr.specs.Find.{IsFirstByte, is_byte2}
use Rattle.mcv_comments.proofs.CommentEnds.{run_found, run_none}
use Rattle.mcv_comments.proofs.Pieces.{rest_of, run_front, run_all}
use Rattle.mcv_comments.proofs.front.run_len.Goals as goal

pub returns-in-Some-clause-kept : goal.returns-in-Some-clause-kept
returns-in-Some-clause-kept c =
    let text = c.args.text.now in
    let end = c.in-Some.end in
    run_front text end c.requires.some c.requires.begins.0 c.requires.begins.1
    (run_found (drop 1 text) end (subst (λ (t : List ℕ). IsFirstByte (is_byte2 34 47) t (Some end)) (rest_of text 1) c.in-Some.ensures))

pub returns-in-None-clause-kept : goal.returns-in-None-clause-kept
returns-in-None-clause-kept c =
    let text = c.args.text.now in
    run_all text c.requires.some c.requires.begins.0 c.requires.begins.1
    (run_none (drop 1 text) (subst (λ (t : List ℕ). IsFirstByte (is_byte2 34 47) t None) (rest_of text 1) c.in-None.ensures))
