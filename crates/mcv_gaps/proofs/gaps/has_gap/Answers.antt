use Rattle.std.proofs.Common.{◌≡◌, ◌∙◌, ◌++◌, List, ap}
use Rattle.std.proofs.lemmas.Result.{IfOk-weaker}
use Rattle.mcv_judge.specs.PairsInMemory.{legs_of}
use Rattle.mcv_judge.specs.declared.block.Leg.{Leg}
use Rattle.mcv_gaps.specs.Gaps.{wanted_of}
use Rattle.mcv_gaps.proofs.Sized.{gap_by}
use Rattle.mcv_gaps.proofs.gaps.has_gap.Goals as goal

pub returns : goal.returns
returns c =
    let w = wanted_of c.args.wanted.now in
    let more = legs_of c.args.added.now in
    let leaves = ap legs_of c.as_slice-3.ensures.value in
    let legs = ap legs_of c.as_slice-2.ensures.value ∙ c.in_ok-legs.ensures ∙ ap (λ (xs : List Leg). legs_of xs ++ more) c.as_slice.ensures.value in
    IfOk-weaker c.is_one_missed.result _ _
    (λ is tells. λ sizes sized also. gap_by sizes w more (legs_of c.as_slice-3.result.now) (legs_of c.as_slice-2.result.now) is leaves legs (tells sizes) sized also) c.is_one_missed.ensures
