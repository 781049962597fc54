use Rattle.std.proofs.Common.{◌≢◌, ◌+◌, ◌∷◌, [], take, drop, sym}
use Rattle.std.proofs.lemmas.List.{append-nil}
use Rattle.std.proofs.lemmas.List.Elements.{All-append}
use Rattle.std.proofs.lemmas.Result.{err_from_is_err_and}
use Rattle.mcv_reply.proofs.Steps.{no_end_found, end_before, end_cut, line_fault, first_fault}
use Rattle.mcv_reply.proofs.progress.in_line.Goals as goal

pub returns-in_err-go_on-in-None : goal.returns-in_err-go_on-in-None
returns-in_err-go_on-in-None c = let p = err_from_is_err_and c.from_residual.result c.from_residual.ensures.1 in rw (p.1, p.2) (
    let q = c.args.progress.now in
    let piece = c.args.piece.now in
    line_fault c.args.op c.args.key.now q.text.items piece [] piece c.in_err-go_on-in-None.field-0.0 c.go_on.new.text.items c.go_on.new.candidates.items _
    (All-append (λ b. b ≢ 10) q.text.items piece c.requires.at.0.no_end (no_end_found piece c.in-None.ensures)) (sym (append-nil piece)) c.in_err-go_on-in-None.ensures)

pub go_on-requires-in-Some-clause-no_end : goal.go_on-requires-in-Some-clause-no_end
go_on-requires-in-Some-clause-no_end c = end_before c.args.piece.now c.in-Some.end c.in-Some.ensures

pub returns-in_err-go_on-in-Some : goal.returns-in_err-go_on-in-Some
returns-in_err-go_on-in-Some c = let p = err_from_is_err_and c.from_residual-in_err-go_on-in-Some.result c.from_residual-in_err-go_on-in-Some.ensures.1 in rw (p.1, p.2) (
    let q = c.args.progress.now in
    let piece = c.args.piece.now in
    let end = c.in-Some.end in
    line_fault c.args.op c.args.key.now q.text.items (take end piece) (10 ∷ drop (end + 1) piece) piece c.in_err-go_on-in-Some.field-0.0 c.go_on-in-Some.new.text.items c.go_on-in-Some.new.candidates.items _
    (All-append (λ b. b ≢ 10) q.text.items (take end piece) c.requires.at.0.no_end (end_before piece end c.in-Some.ensures)) (end_cut piece end c.in-Some.ensures) c.in_err-go_on-in-Some.ensures)

pub returns-in_err-reply-in-Some : goal.returns-in_err-reply-in-Some
returns-in_err-reply-in-Some c = let p = err_from_is_err_and c.from_residual-in_err-reply-in-Some.result c.from_residual-in_err-reply-in-Some.ensures.1 in rw (p.1, p.2) (
    let q = c.args.progress.now in
    let piece = c.args.piece.now in
    let end = c.in-Some.end in
    first_fault c.args.op c.args.key.now q.text.items (take end piece) (drop (end + 1) piece) piece c.go_on-in-Some.new.text.items c.in_err-reply-in-Some.field-0.0 c.first_ended.new.progress _
    (end_cut piece end c.in-Some.ensures) c.in_ok-go_on-in-Some.ensures.0 c.in_err-reply-in-Some.ensures)
