use Rattle.std.proofs.Common.{◌≡◌, ◌∙◌, ◌<◌, ◌≤◌, List, ap, length, map, sym, arith}
use Rattle.std.proofs.lemmas.List.{take_all}
use Rattle.mcv_blocks.specs.declared.classes.RouteClass.{RouteClass}
use Rattle.mcv_mended.specs.Classes.{place_of, places_of}
use Rattle.mcv_needs.specs.InMemory.{class_of_need}
use Rattle.mcv_needs.specs.declared.needs.Need.{Need}
use Rattle.mcv_mended.proofs.SameClasses.{places_more}
use Rattle.mcv_mended.proofs.mended.are_classes.Goals as goal

pub loop-number-preserved : goal.loop-number-preserved
loop-number-preserved c =
    let needs = c.args.needs.now in
    let classes = c.args.classes.now in
    let i = c.loop-number.number in
    let x = c.index-needs-number.result in
    let y = c.index-classes-number.result in
    let test = c.loop-number-test.true in
    let lt : i < length needs = omega arith in
    let less : i < length classes = omega arith in
    let same : place_of (class_of_need x) ≡ place_of y = λ k. (c.is_same_class.ensures.route c.if-not-is_same_class.false k, c.is_same_class.ensures.word c.if-not-is_same_class.false k) in
    places_more needs classes i x y lt c.index-needs-number.is less c.index-classes-number.is same c.loop-number.invariant

pub returns : goal.returns
returns c = λ _.
    let past = c.loop-number-test.false in
    let first : length c.args.needs.now ≤ c.loop-number.number = omega arith in
    let second : length c.args.classes.now ≤ c.loop-number.number = omega arith in
    ap (λ (xs : List Need). places_of (map class_of_need xs)) (sym (take_all c.loop-number.number c.args.needs.now first)) ∙ c.loop-number.invariant ∙ ap places_of (take_all c.loop-number.number c.args.classes.now second)
