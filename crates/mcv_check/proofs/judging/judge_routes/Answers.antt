use Rattle.std.proofs.Common.{sym, subst}
use Rattle.std.proofs.lemmas.Result.{err_from_is_err_and}
use Rattle.mcv_blocks.specs.Places.{AreRouteClasses}
use Rattle.mcv_blocks.specs.Spots.{AreNears}
use Rattle.mcv_judge.specs.PairsInMemory.{pairs_of}
use Rattle.mcv_check.proofs.Classes.{all_classes, class_at, class_stops, end_stops, first_class, next_class, past_classes}
use Rattle.mcv_check.proofs.judging.judge_routes.Goals as goal

pub judge_class-requires : goal.judge_class-requires
judge_class-requires c = record {
  sound = c.requires.sound;
  class = class_at c.args.routes.now c.deref-class-items.result.now (subst (AreRouteClasses c.args.routes.now) (sym c.deref-class-items.ensures.value) c.in_ok-classes.ensures) c.loop-class.class-index c.class-item.result c.loop-class-test.true c.class-item.is;
  nears = subst (AreNears c.args.routes.now) (sym c.as_slice-near.ensures.value) c.in_ok-nears.ensures;
  pairs = c.loop-class.invariant.rising;
}

pub loop-class-init : goal.loop-class-init
loop-class-init c = record { rising = c.requires.pairs; so_far = first_class c.args.routes.now c.deref-class-items.result.now c.as_slice-near.result.now (pairs_of c.args.pairs.now) (subst (AreRouteClasses c.args.routes.now) (sym c.deref-class-items.ensures.value) c.in_ok-classes.ensures) (subst (AreNears c.args.routes.now) (sym c.as_slice-near.ensures.value) c.in_ok-nears.ensures) }

pub loop-class-preserved : goal.loop-class-preserved
loop-class-preserved c = record {
  rising = c.in_ok-rest.ensures.rising;
  so_far = next_class c.args.routes.now c.deref-class-items.result.now c.as_slice-near.result.now (pairs_of c.args.pairs.now) c.loop-class.class-index c.class-item.result c.loop-class-test.true c.class-item.is (pairs_of c.loop-class.rest.now) (pairs_of c.in_ok-rest.rest.now)
      c.loop-class.invariant.so_far c.in_ok-rest.ensures.left;
}

pub returns-in_err-rest : goal.returns-in_err-rest
returns-in_err-rest c =
    let reported = class_stops c.args.routes.now c.deref-class-items.result.now c.as_slice-near.result.now (pairs_of c.args.pairs.now) (subst (AreRouteClasses c.args.routes.now) (sym c.deref-class-items.ensures.value) c.in_ok-classes.ensures) (subst (AreNears c.args.routes.now) (sym c.as_slice-near.ensures.value) c.in_ok-nears.ensures) c.loop-class.class-index c.class-item.result c.loop-class-test.true c.class-item.is
    (pairs_of c.loop-class.rest.now) c.loop-class.invariant.so_far c.in_err-rest.field-0.0 c.in_err-rest.ensures.fault in
    let p = err_from_is_err_and c.from_residual-in_err-rest.result c.from_residual-in_err-rest.ensures.1 in
    rw (p.1, p.2) reported

pub returns : goal.returns
returns c =
    let left = past_classes c.args.routes.now c.deref-class-items.result.now c.as_slice-near.result.now (pairs_of c.args.pairs.now) c.loop-class.class-index c.loop-class-test.false (pairs_of c.loop-class.rest.now) c.loop-class.invariant.so_far in
    all_classes c.args.routes.now c.deref-class-items.result.now c.as_slice-near.result.now (pairs_of c.args.pairs.now) (subst (AreRouteClasses c.args.routes.now) (sym c.deref-class-items.ensures.value) c.in_ok-classes.ensures) (subst (AreNears c.args.routes.now) (sym c.as_slice-near.ensures.value) c.in_ok-nears.ensures) (pairs_of c.loop-class.rest.now) left c.in_ok-judge_end.ensures

pub returns-in_err-judge_end : goal.returns-in_err-judge_end
returns-in_err-judge_end c =
    let left = past_classes c.args.routes.now c.deref-class-items.result.now c.as_slice-near.result.now (pairs_of c.args.pairs.now) c.loop-class.class-index c.loop-class-test.false (pairs_of c.loop-class.rest.now) c.loop-class.invariant.so_far in
    let p = err_from_is_err_and c.from_residual-in_err-judge_end.result c.from_residual-in_err-judge_end.ensures.1 in
    rw (p.1, p.2) (end_stops c.args.routes.now c.deref-class-items.result.now c.as_slice-near.result.now (pairs_of c.args.pairs.now) (subst (AreRouteClasses c.args.routes.now) (sym c.deref-class-items.ensures.value) c.in_ok-classes.ensures) (subst (AreNears c.args.routes.now) (sym c.as_slice-near.ensures.value) c.in_ok-nears.ensures) (pairs_of c.loop-class.rest.now) left _ c.in_err-judge_end.ensures)
