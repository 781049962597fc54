use Rattle.std.proofs.Common.{ℕ, ap, refl, subst}
use Rattle.std.proofs.lemmas.Result.{IfOk-weaker}
use Rattle.mcv_spans.proofs.Views.{items_on, list_stands, object_stands, text_stands, word_stands}
use Rattle.mcv_spans.specs.Place.{view}
use Rattle.mcv_spans.specs.Stands.{StandsIn}
use Rattle.mcv_spans.specs.declared.value.Span.{Span}
use Rattle.mcv_spans.proofs.standing.+standing.Goals as goal

pub items_stand-loop-item-preserved : goal.items_stand-loop-item-preserved
items_stand-loop-item-preserved t c =
    let i = c.loop-item.item-index in
    let item = c.item-item.result in
    let stands = subst (λ (to : ℕ). StandsIn c.args.text.now c.loop-item.left.start to (view item)) c.loop-item.invariant.0 (c.in_ok-stands.ensures c.if-not-stands.false) in
    (refl, λ rest. c.loop-item.invariant.1 (items_on _ _ _ _ i item _ c.loop-item-test.true c.item-item.is stands (ap (λ (s : Span). s.end) c.span.ensures) rest))

pub stands_in-returns-in-Object : goal.stands_in-returns-in-Object
stands_in-returns-in-Object t c =
    IfOk-weaker c.object_stands.result _ _ (λ stands members is.
    object_stands _ _ _ c.args.value.now _ c.span-span.result c.in-Object.members _ _ c.in-Object.is c.span-span.ensures (c.is_within.ensures c.if-not-is_within.false) c.in-Some.ensures c.as_slice.ensures.value (members is))
    c.object_stands.ensures

pub stands_in-returns-in-Array : goal.stands_in-returns-in-Array
stands_in-returns-in-Array t c =
    IfOk-weaker c.list_stands.result _ _ (λ stands items is.
    list_stands _ _ _ c.args.value.now _ c.span-span.result c.in-Array.items _ _ c.in-Array.is c.span-span.ensures (c.is_within.ensures c.if-not-is_within.false) c.in-Some.ensures c.as_slice-in-Array.ensures.value (items is))
    c.list_stands.ensures

pub stands_in-returns-in-Text : goal.stands_in-returns-in-Text
stands_in-returns-in-Text t c =
    IfOk-weaker c.reads_as.result _ _ (λ reads body is.
    text_stands _ _ _ c.args.value.now _ c.span-span.result c.in-Text.body _ _ c.in-Text.is c.span-span.ensures (c.is_within.ensures c.if-not-is_within.false) c.in-Some.ensures c.as_str.ensures.value (body is))
    c.reads_as.ensures

pub stands_in-returns-in-Other : goal.stands_in-returns-in-Other
stands_in-returns-in-Other t c =
    IfOk-weaker c.is_word.result _ _ (λ is word here.
    word_stands _ _ _ c.args.value.now _ c.span-span.result _ c.in-Other.is c.span-span.ensures (c.is_within.ensures c.if-not-is_within.false) c.in-Some.ensures (word here))
    c.is_word.ensures
