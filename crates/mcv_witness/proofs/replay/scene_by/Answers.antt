use Rattle.std.proofs.Common.{◌↔◌, ℕ, List, option_map, ap, subst, ◌∙◌}
use Rattle.std.specs.Prelude.{IsTrue, slice_get}
use Rattle.mcv_classes.specs.Class.{IsClassWord}
use Rattle.mcv_classes.specs.Words.{class_words}
use Rattle.mcv_route.specs.View.{view}
use Rattle.mcv_witness.specs.Finding.{finding_of}
use Rattle.mcv_witness.proofs.BreakDecision.{found_at, no_eras, no_route, no_tree, other_class, other_route}
use Rattle.mcv_witness.proofs.replay.scene_by.Goals as goal

pub returns-in_err-number : goal.returns-in_err-number
returns-in_err-number c =
    rw c.from_residual.ensures (no_route c.args.routes.now (finding_of c.args.finding.now) c.args.prefix.now c.args.rest c.requires.cut c.in_err-number.ensures)

pub returns-then-number-finding : goal.returns-then-number-finding
returns-then-number-finding c =
    other_route c.args.routes.now (finding_of c.args.finding.now) c.args.prefix.now c.args.rest c.requires.cut c.in_ok-number.number c.in_ok-number.ensures c.if-number-finding.true

pub returns-in_err-route : goal.returns-in_err-route
returns-in_err-route c =
    let f = finding_of c.args.finding.now in
    rw c.from_residual-in_err-route.ensures (no_tree c.args.routes.now f (c.in_err-route.ensures ∙ ap (λ n. option_map (λ e. e.tree) (slice_get c.args.routes.now.entries n)) c.if-number-finding.false))

pub returns-in_err-eras : goal.returns-in_err-eras
returns-in_err-eras c = rw c.from_residual-in_err-eras.ensures (no_eras c.args.routes.now (finding_of c.args.finding.now) c.in_err-eras.ensures)

pub returns-then-not-is_class_word : goal.returns-then-not-is_class_word
returns-then-not-is_class_word c =
    let f = finding_of c.args.finding.now in
    let t = view c.in_ok-route.route.now in
    other_class c.args.routes.now f c.args.prefix.now c.args.rest c.requires.cut t c.is_class_word.result
    (c.in_ok-route.ensures ∙ ap (λ n. option_map (λ e. e.tree) (slice_get c.args.routes.now.entries n)) c.if-number-finding.false) c.if-not-is_class_word.true
    (subst (λ (w : List ℕ). IsTrue c.is_class_word.result ↔ IsClassWord (class_words t) c.args.rest w) c.as_slice.ensures.value c.is_class_word.ensures)

pub returns : goal.returns
returns c =
    let f = finding_of c.args.finding.now in
    let t = view c.in_ok-route.route.now in
    let eras = c.in_ok-eras.eras in
    found_at c.args.routes.now f c.args.prefix.now c.args.rest t (option_map (λ m. m.0) eras.since) (option_map (λ m. m.0) eras.read) c.in_ok-number.number c.requires.word c.requires.cut c.as_bytes.ensures.rest
    c.in_ok-number.ensures c.if-number-finding.false c.in_ok-route.ensures
    ((subst (λ (w : List ℕ). IsTrue c.is_class_word.result ↔ IsClassWord (class_words t) c.args.rest w) c.as_slice.ensures.value c.is_class_word.ensures).0 c.if-not-is_class_word.false)
    c.in_ok-eras.ensures
