use Rattle.std.proofs.Common.{◌≡◌, ◌∙◌, ◌<◌, ◌≤◌, ◌++◌, ◌∷◌, ◌+◌, [], List, ap, length, subst, sym, true≢false, arith}
use Rattle.std.specs.List.{Contains}
use Rattle.std.proofs.lemmas.List.{get_or_default, map-append}
use Rattle.mcv_judge.specs.PairsInMemory.{leg_of, legs_of}
use Rattle.mcv_judge.specs.Reason.{LegValue}
use Rattle.mcv_judge.specs.declared.block.Leg.{Leg}
use Rattle.mcv_gaps.specs.Gaps.{IsMissed, IsSizedLeaf, wanted_of}
use Rattle.mcv_gaps.proofs.Mapped.{item}
use Rattle.mcv_gaps.proofs.MissedSoFar.{AreMissedSoFar, missed_all, missed_more, missed_none, missed_same}
use Rattle.mcv_gaps.proofs.Sized.{leaf_sized}
use Rattle.mcv_gaps.proofs.missing.missed_of.Goals as goal
use Rattle.mcv_gaps.proofs.missing.missed_of.Goals.{then-missed+in_ok-push, else-missed}

pub loop-index-init : goal.loop-index-init
loop-index-init c = subst (λ (ls : List Leg). AreMissedSoFar (wanted_of c.args.wanted.now) c.args.wanted.now.readable.items 0 (legs_of ls)) (sym c.new-legs.ensures.items) (missed_none (wanted_of c.args.wanted.now) c.args.wanted.now.readable.items)

pub loop-index-preserved : goal.loop-index-preserved
loop-index-preserved c =
    let v = wanted_of c.args.wanted.now in
    let leaves = c.args.wanted.now.readable.items in
    let i = c.loop-index.index in
    let leaf = c.index-own.result.now in
    let other = c.index-leaf.result.now in
    let legs = c.loop-index.legs.items in
    let count = c.args.wanted.now.readable.ok.0 in
    let test = c.loop-index-test.true in
    let lt : i < length leaves = omega (arith, count, test) in
    let read = item leg_of leaves i leaf lt c.index-own.ensures in
    let same : other ≡ leaf = c.index-leaf.ensures ∙ get_or_default leaves i other leaf lt ∙ sym c.index-own.ensures in
    elim c.if-missed.branch [
      | then-missed+in_ok-push w ↦
          let items : c.if-missed.legs.items ≡ legs ++ leaf ∷ [] = (λ k. (w.legs-is k).items) ∙ w.in_ok-push.ensures.items in
          subst (λ (ls : List LegValue). AreMissedSoFar v leaves (i + 1) ls) (sym (ap legs_of items ∙ map-append leg_of legs (leaf ∷ [])))
          (missed_more v leaves i leaf lt c.index-own.ensures (legs_of legs) c.loop-index.invariant read)
      | else-missed w ↦
          let items : c.if-missed.legs.items ≡ legs = λ k. (w.legs-is k).items in
          let picks = c.in_ok-picks.ensures ∙ ap legs_of c.as_slice.ensures.value in
          subst (λ (ls : List Leg). AreMissedSoFar v leaves (i + 1) (legs_of ls)) (sym items)
          (missed_same v leaves i leaf lt c.index-own.ensures (legs_of legs) c.loop-index.invariant
          (λ sizes sized m.
          let own = subst (λ (ps : List LegValue). IsSizedLeaf sizes ps (leg_of leaf)) (sym picks) (leaf_sized sizes v.readable v.acknowledged sized (leg_of leaf) read) in
          let tells = c.in_ok-missed.ensures sizes (subst (λ (x : Leg). IsSizedLeaf sizes c.in_ok-picks.picks (leg_of x)) (sym same) own) in
          let gone = subst (λ (x : Leg). IsMissed sizes c.in_ok-picks.picks (leg_of x)) (sym same) (subst (λ (ps : List LegValue). IsMissed sizes ps (leg_of leaf)) (sym picks) m) in
          true≢false (sym (tells.1 gone) ∙ w.if-missed.false)))
    ]

pub returns : goal.returns
returns c =
    let count = c.args.wanted.now.readable.ok.0 in
    let test = c.loop-index-test.false in
    let past : length c.args.wanted.now.readable.items ≤ c.loop-index.index = omega (arith, count, test) in
    record {
      only = c.loop-index.invariant.only;
      all = missed_all (wanted_of c.args.wanted.now) c.args.wanted.now.readable.items c.loop-index.index (legs_of c.loop-index.legs.items) past c.loop-index.invariant;
    }
