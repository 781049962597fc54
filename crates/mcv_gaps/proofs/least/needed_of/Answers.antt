use Rattle.std.proofs.Common.{◌≡◌, ◌∙◌, ◌++◌, ◌∷◌, ◌+◌, [], List, ap, drop, length, subst, sym, true≢false}
use Rattle.std.proofs.lemmas.List.{map-append}
use Rattle.mcv_judge.specs.PairsInMemory.{leg_of, legs_of}
use Rattle.mcv_judge.specs.Reason.{LegValue}
use Rattle.mcv_judge.specs.declared.block.Leg.{Leg}
use Rattle.mcv_gaps.specs.Gaps.{HaveGap, wanteds_of}
use Rattle.mcv_gaps.specs.Least.{AreKept, leg_missing, legs_missing}
use Rattle.mcv_gaps.proofs.Needed.{IsSoFar, so_far_all, so_far_kept, so_far_left, so_far_none}
use Rattle.mcv_gaps.proofs.least.needed_of.Goals as goal
use Rattle.mcv_gaps.proofs.least.needed_of.Goals.{then-needed+in_ok-push, else-needed}

pub loop-number-init : goal.loop-number-init
loop-number-init c =
    let ws = wanteds_of c.args.wanted.now in
    subst (λ (ls : List Leg). IsSoFar ws c.args.missing.now 0 (legs_of ls)) (sym c.new-kept.ensures.items) (so_far_none ws c.args.missing.now c.requires)

pub is_needed-requires-clause-kept : goal.is_needed-requires-clause-kept
is_needed-requires-clause-kept c = subst (λ (ls : List Leg). AreKept (legs_missing c.args.missing.now) c.loop-number.number (legs_of ls)) (sym c.as_slice.ensures.value) c.loop-number.invariant.kept_are

pub loop-number-preserved : goal.loop-number-preserved
loop-number-preserved c =
    let ws = wanteds_of c.args.wanted.now in
    let ms = c.args.missing.now in
    let n = c.loop-number.number in
    let m = c.index-missing-number.result in
    let kept = c.loop-number.kept.items in
    let rest = legs_missing (drop (n + 1) ms) in
    elim c.if-needed.branch [
      | then-needed+in_ok-push w ↦
          let items : c.if-needed.kept.items ≡ kept ++ m.leg ∷ [] = (λ i. (w.kept-is i).items) ∙ w.in_ok-push.ensures.items in
          subst (λ (ls : List LegValue). IsSoFar ws ms (n + 1) ls) (sym (ap legs_of items ∙ map-append leg_of kept (m.leg ∷ [])))
          (so_far_kept ws ms n m (legs_of kept) c.loop-number-test.true c.index-missing-number.is c.loop-number.invariant
          (λ sizes sized. subst (λ (ls : List Leg). HaveGap sizes ws (legs_of ls ++ rest)) c.as_slice.ensures.value ((c.in_ok-needed.ensures sizes sized).0 w.if-needed.true)))
      | else-needed w ↦
          let items : c.if-needed.kept.items ≡ kept = λ i. (w.kept-is i).items in
          subst (λ (ls : List Leg). IsSoFar ws ms (n + 1) (legs_of ls)) (sym items)
          (so_far_left ws ms n m (legs_of kept) c.loop-number-test.true c.index-missing-number.is c.loop-number.invariant
          (λ sizes sized g. true≢false (sym ((c.in_ok-needed.ensures sizes sized).1 (subst (λ (ls : List Leg). HaveGap sizes ws (legs_of ls ++ rest)) (sym c.as_slice.ensures.value) g)) ∙ w.if-needed.false)))
    ]

pub returns : goal.returns
returns c = λ sizes sized enough.
    so_far_all (wanteds_of c.args.wanted.now) c.args.missing.now c.loop-number.number (legs_of c.loop-number.kept.items) c.loop-number-test.false c.loop-number.invariant sizes sized enough
