use Rattle.std.proofs.Common.{◌≡◌, ◌≢◌, ◌+◌, ◌++◌, ◌∷◌, List, ℕ, [], take, drop, ap, arith, sym, refl, subst, ◌∙◌}
use Rattle.std.specs.Prelude.{codes}
use Rattle.mcv_reply.specs.Probe.{IsVersionFront}
use Rattle.std.specs.Str.Lines.{strip_carriage_return}
use Rattle.std.proofs.lemmas.List.{append-nil, length-drop, nil_from_length}
use Rattle.std.proofs.lemmas.List.Elements.{All-append}
use Rattle.std.proofs.lemmas.Result.{err_from_is_err_and}
use Rattle.mcv_reply.proofs.Steps.{no_end_found, end_before, end_cut, end_within}
use Rattle.mcv_reply.proofs.Probing.{probe_fault, probe_wrong, probe_more, probe_right, probe_front}
use Rattle.mcv_reply.proofs.probe.read.Goals as goal

pub returns-in_err-go_on-in-None : goal.returns-in_err-go_on-in-None
returns-in_err-go_on-in-None c = let p = err_from_is_err_and c.from_residual.result c.from_residual.ensures.1 in rw (p.1, p.2) (
    let old = c.args.text.now.items in
    let piece = c.args.piece.now in
    probe_fault old piece [] piece c.in_err-go_on-in-None.field-0.0 c.go_on.new.text.items _ c.go_on.new.candidates.items _ (All-append (λ b. b ≢ 10) old piece c.requires.kept.no_end (no_end_found piece c.in-None.ensures)) (sym (append-nil piece)) c.in_err-go_on-in-None.ensures)

pub returns-in_ok-go_on-in-None : goal.returns-in_ok-go_on-in-None
returns-in_ok-go_on-in-None c =
    let e = c.in_ok-go_on-in-None.ensures in
    (subst (λ (t : List ℕ). IsVersionFront t) e.0 (probe_front c.go_on.new.text.items c.go_on.new.candidates.items e.1 e.2), e.0, e.1)

pub returns-in_err-go_on-in-Some : goal.returns-in_err-go_on-in-Some
returns-in_err-go_on-in-Some c = let p = err_from_is_err_and c.from_residual-in_err-go_on-in-Some.result c.from_residual-in_err-go_on-in-Some.ensures.1 in rw (p.1, p.2) (
    let old = c.args.text.now.items in
    let piece = c.args.piece.now in
    let end = c.in-Some.end in
    probe_fault old (take end piece) (10 ∷ drop (end + 1) piece) piece c.in_err-go_on-in-Some.field-0.0 c.go_on-in-Some.new.text.items _ c.go_on-in-Some.new.candidates.items _ (All-append (λ b. b ≢ 10) old (take end piece) c.requires.kept.no_end (end_before piece end c.in-Some.ensures)) (end_cut piece end c.in-Some.ensures) c.in_err-go_on-in-Some.ensures)

pub returns-then-end-piece : goal.returns-then-end-piece
returns-then-end-piece c =
    let old = c.args.text.now.items in
    let piece = c.args.piece.now in
    let end = c.in-Some.end in
    let e = c.in_ok-go_on-in-Some.ensures in
    probe_more old (take end piece) (drop (end + 1) piece) piece c.go_on-in-Some.new.text.items (end_cut piece end c.in-Some.ensures) e.0 e.1.no_end
    (omega (arith, length-drop (end + 1) piece, end_within piece end c.in-Some.ensures, c.if-end-piece.true))

pub returns-in-None-said : goal.returns-in-None-said
returns-in-None-said c =
    let old = c.args.text.now.items in
    let piece = c.args.piece.now in
    let end = c.in-Some.end in
    let e = c.in_ok-go_on-in-Some.ensures in
    probe_wrong old (take end piece) (drop (end + 1) piece) piece c.go_on-in-Some.new.text.items (end_cut piece end c.in-Some.ensures) e.0 e.1.no_end (c.in-None-said.ensures (codes "-") c.go_on-in-Some.new.text.items refl e.1)

pub returns-in-Some-said : goal.returns-in-Some-said
returns-in-Some-said c =
    let old = c.args.text.now.items in
    let piece = c.args.piece.now in
    let end = c.in-Some.end in
    let e = c.in_ok-go_on-in-Some.ensures in
    let none : drop (end + 1) piece ≡ [] = nil_from_length (drop (end + 1) piece) (omega (arith, length-drop (end + 1) piece, c.if-end-piece.false)) in
    let text_is : c.replace.result.items ≡ c.go_on-in-Some.new.text.items = ap (λ t. t.items) c.replace.ensures.value in
    probe_right old (take end piece) piece c.go_on-in-Some.new.text.items c.without_return.result.items c.in-Some-said._said.first c.in-Some-said._said.head (end_cut piece end c.in-Some.ensures ∙ ap (λ t. take end piece ++ 10 ∷ t) none) e.0
    (c.without_return.ensures ∙ ap strip_carriage_return text_is) (c.in-Some-said.ensures (codes "-") c.go_on-in-Some.new.text.items refl e.1)
