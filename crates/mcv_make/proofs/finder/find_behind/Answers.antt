use Rattle.std.proofs.Common.{◌≡◌, ◌∙◌, Some, option_map, ap, subst, sym}
use Rattle.mcv_base.specs.declared.request.Moment.{Moment}
use Rattle.mcv_classes.specs.Class.{IsMember}
use Rattle.mcv_classes.specs.Words.{class_words}
use Rattle.mcv_route.specs.View.{pool_view, view}
use Rattle.mcv_witness.specs.Finding.{outcomes_of}
use Rattle.mcv_make.specs.FreeIndexes.{free_indexes}
use Rattle.mcv_make.specs.ShownFinding.{IsShownWith}
use Rattle.mcv_make.proofs.BuiltFinding.{finding_at, reads, is_shown}
use Rattle.mcv_make.proofs.finder.find_behind.Goals as goal

pub reading-requires : goal.reading-requires
reading-requires c =
    let g = c.args.gap.now in
    let t = view c.in-Some.route.now in
    let member = subst (λ w. IsMember (class_words t) w (Some c.in_ok-rest.rest)) c.as_slice.ensures.value c.in_ok-rest.ensures in
    reads c.args.routes.now g c.requires.gap t c.in-Some.ensures c.in_ok-rest.rest member (option_map (λ (m : Moment). m.0) c.opened.result) (option_map (λ (m : Moment). m.0) c.opened-2.result) c.opened.ensures.some c.opened-2.ensures.some

pub returns-clause-shown : goal.returns-clause-shown
returns-clause-shown c =
    let r = c.args.routes.now in
    let g = c.args.gap.now in
    let t = view c.in-Some.route.now in
    let rest = c.in_ok-rest.rest in
    let since = option_map (λ (m : Moment). m.0) c.opened.result in
    let read = option_map (λ (m : Moment). m.0) c.opened-2.result in
    let pool = pool_view c.in-Some-leaf_at.leaf.now in
    let member = subst (λ w. IsMember (class_words t) w (Some rest)) c.as_slice.ensures.value c.in_ok-rest.ensures in
    let symbols : c.as_slice-symbols.result.now ≡ r.symbols = c.as_slice-symbols.ensures.value ∙ c.symbols.ensures.value in
    let chosen = c.in_ok-choice.ensures in
    let f = finding_at g c.window.result c.in_ok-key_of.field-0.items c.in_ok-choice.field-0 c.in_ok-op.field-0.op (outcomes_of c.in_ok-op.field-0.legs.items) (outcomes_of c.in_ok-deletes.field-0.items) in
    let is : IsShownWith r c.args.prefix.now f =
    is_shown r g c.requires.gap t c.in-Some.ensures rest member since read c.opened.ensures.some c.opened-2.ensures.some pool c.in-Some-leaf_at.ensures c.window.result c.args.prefix.now
    c.in_ok-key_of.field-0.items c.in_ok-choice.field-0 c.in_ok-op.field-0.op (outcomes_of c.in_ok-op.field-0.legs.items) (outcomes_of c.in_ok-deletes.field-0.items) chosen.0
    c.window.ensures c.as_bytes.ensures.rest c.in_ok-key_of.ensures chosen.1 (chosen.2 ∙ ap (free_indexes chosen.0 g.server.0 pool.symbol g.at 0) symbols)
    c.in_ok-op.ensures.reading c.in_ok-op.ensures.first c.in_ok-op.ensures.led c.in_ok-deletes.ensures in
    subst (IsShownWith r c.args.prefix.now) (λ k. record f { place = sym c.in_ok-copy.ensures k }) is
