use Rattle.std.proofs.Common.{◌≡◌, ◌<◌, ◌≤◌, ◌∙◌, List, length, refl, sym, true≢false, arith}
use Rattle.std.proofs.lemmas.List.Elements.{All-contains}
use Rattle.mcv_judge.specs.PairsInMemory.{legs_of}
use Rattle.mcv_gaps.specs.Gaps.{AreSizedBy, HasGap, WantedValue, wanted_of, wanteds_of}
use Rattle.mcv_gaps.proofs.Mapped.{item, none_at_all, none_further}
use Rattle.mcv_gaps.proofs.gaps.have_gap.Goals as goal

pub loop-one-preserved : goal.loop-one-preserved
loop-one-preserved c = λ sizes sized also.
    let ws = c.args.wanted.now in
    let one = c.one-item.result in
    let i = c.loop-one.one-index in
    let at = item wanted_of ws i one c.loop-one-test.true c.one-item.is in
    let tells = c.in_ok-gap.ensures sizes (All-contains (AreSizedBy sizes) (wanteds_of ws) (wanted_of one) sized at) also in
    none_further wanted_of (λ (w : WantedValue). HasGap sizes w (legs_of c.args.added.now)) ws i one c.loop-one-test.true c.one-item.is (c.loop-one.invariant sizes sized also)
    (λ g. true≢false (sym (tells.1 g) ∙ c.if-gap.false))

pub returns-then-gap : goal.returns-then-gap
returns-then-gap c = λ sizes sized also.
    let ws = c.args.wanted.now in
    let one = c.one-item.result in
    let at = item wanted_of ws c.loop-one.one-index one c.loop-one-test.true c.one-item.is in
    let tells = c.in_ok-gap.ensures sizes (All-contains (AreSizedBy sizes) (wanteds_of ws) (wanted_of one) sized at) also in
    (λ _. (wanted_of one, at, tells.0 c.if-gap.true), λ _. refl)

pub returns : goal.returns
returns c = λ sizes sized also.
    let past : length c.args.wanted.now ≤ c.loop-one.one-index = c.loop-one-test.false in
    (λ e. absurd (true≢false (sym e)), λ g. absurd (none_at_all wanted_of (λ (w : WantedValue). HasGap sizes w (legs_of c.args.added.now)) c.args.wanted.now c.loop-one.one-index past (c.loop-one.invariant sizes sized also) g.0 g.1 g.2))
