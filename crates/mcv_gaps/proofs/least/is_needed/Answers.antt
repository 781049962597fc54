use Rattle.std.proofs.Common.{◌≡◌, ◌∙◌, List, ap, refl, sym, drop, ◌+◌, ◌++◌}
use Rattle.std.proofs.lemmas.Result.{IfOk-weaker}
use Rattle.mcv_judge.specs.PairsInMemory.{legs_of}
use Rattle.mcv_gaps.specs.Gaps.{wanteds_of}
use Rattle.mcv_gaps.specs.Least.{legs_missing}
use Rattle.mcv_gaps.specs.declared.missing.Missing.{Missing}
use Rattle.mcv_gaps.proofs.Sized.{gap_same}
use Rattle.mcv_gaps.proofs.Needed.{beside_it, sized_others, sole_needed}
use Rattle.mcv_gaps.proofs.least.is_needed.Goals as goal

pub returns-then-is_sole : goal.returns-then-is_sole
returns-then-is_sole c = λ sizes sized.
    let ws = wanteds_of c.args.wanted.now in
    let ms = c.args.missing.now in
    let n = c.args.number in
    let kept = legs_of c.args.kept.now in
    let gap = sole_needed sizes ws sized ms c.requires.missing c.args.owners.now c.requires.owners n c.index-missing-number.result (n, c.requires.within, sym c.index-missing-number.is) (c.is_sole.ensures c.if-is_sole.true)
    (kept ++ legs_missing (drop (n + 1) ms)) (beside_it ms kept n c.requires.kept) in
    (λ _. gap, λ _. refl)

pub returns : goal.returns
returns c =
    let ws = wanteds_of c.args.wanted.now in
    let ms = c.args.missing.now in
    let n = c.args.number in
    let kept = legs_of c.args.kept.now in
    let beside = kept ++ legs_missing (drop (n + 1) ms) in
    let same = ap legs_of c.as_slice.ensures.value ∙ c.in_ok-others.ensures ∙ ap (λ (xs : List Missing). kept ++ legs_missing xs) c.split_at.ensures.back in
    IfOk-weaker c.have_gap.result _ _
    (λ is tells. λ sizes sized. gap_same sizes ws (legs_of c.as_slice.result.now) beside is same (tells sizes sized)
    (sized_others sizes ws sized ms c.requires.missing c.args.owners.now c.requires.owners n beside (beside_it ms kept n c.requires.kept)))
    c.have_gap.ensures
