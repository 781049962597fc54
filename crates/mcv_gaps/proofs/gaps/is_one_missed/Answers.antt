use Rattle.std.proofs.Common.{◌≡◌, ◌<◌, ◌≤◌, ◌∙◌, List, length, refl, sym, subst, true≢false, arith}
use Rattle.mcv_judge.specs.PairsInMemory.{leg_of, legs_of}
use Rattle.mcv_judge.specs.Reason.{LegValue}
use Rattle.mcv_gaps.specs.Gaps.{IsMissed, IsSizedLeaf}
use Rattle.mcv_gaps.proofs.Mapped.{item, none_at_all, none_further}
use Rattle.mcv_gaps.proofs.Sized.{leaf_sized}
use Rattle.mcv_gaps.proofs.gaps.is_one_missed.Goals as goal

pub loop-leaf-preserved : goal.loop-leaf-preserved
loop-leaf-preserved c = λ sizes sized.
    let leaves = c.args.leaves.now in
    let legs = legs_of c.args.legs.now in
    let leaf = c.leaf-item.result in
    let i = c.loop-leaf.leaf-index in
    let own = leaf_sized sizes (legs_of leaves) legs sized (leg_of leaf) (item leg_of leaves i leaf c.loop-leaf-test.true c.leaf-item.is) in
    let tells = c.in_ok-missed.ensures sizes (subst (λ (ps : List LegValue). IsSizedLeaf sizes ps (leg_of leaf)) (sym c.in_ok-picks.ensures) own) in
    none_further leg_of (IsMissed sizes legs) leaves i leaf c.loop-leaf-test.true c.leaf-item.is (c.loop-leaf.invariant sizes sized)
    (λ m. true≢false (sym (tells.1 (subst (λ (ps : List LegValue). IsMissed sizes ps (leg_of leaf)) (sym c.in_ok-picks.ensures) m)) ∙ c.if-missed.false))

pub returns-then-missed : goal.returns-then-missed
returns-then-missed c = λ sizes sized.
    let leaves = c.args.leaves.now in
    let legs = legs_of c.args.legs.now in
    let leaf = c.leaf-item.result in
    let at = item leg_of leaves c.loop-leaf.leaf-index leaf c.loop-leaf-test.true c.leaf-item.is in
    let own = leaf_sized sizes (legs_of leaves) legs sized (leg_of leaf) at in
    let tells = c.in_ok-missed.ensures sizes (subst (λ (ps : List LegValue). IsSizedLeaf sizes ps (leg_of leaf)) (sym c.in_ok-picks.ensures) own) in
    (λ _. (leg_of leaf, at, subst (λ (ps : List LegValue). IsMissed sizes ps (leg_of leaf)) c.in_ok-picks.ensures (tells.0 c.if-missed.true)), λ _. refl)

pub returns : goal.returns
returns c = λ sizes sized.
    let past : length c.args.leaves.now ≤ c.loop-leaf.leaf-index = c.loop-leaf-test.false in
    (λ e. absurd (true≢false (sym e)), λ g. absurd (none_at_all leg_of (IsMissed sizes (legs_of c.args.legs.now)) c.args.leaves.now c.loop-leaf.leaf-index past (c.loop-leaf.invariant sizes sized) g.0 g.1 g.2))
