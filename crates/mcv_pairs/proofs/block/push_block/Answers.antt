use Rattle.std.proofs.Common.{◌≡◌, ◌+◌, ◌∷◌, [], ◌++◌, Option, Some, ℕ, take, ap, sym, ◌∙◌, subst}
use Rattle.std.specs.Option.{option_map}
use Rattle.std.specs.Prelude.{All, IfNone, IfSome}
use Rattle.std.proofs.lemmas.List.{map_more, take-map}
use Rattle.std.proofs.lemmas.Option.{slice_get-get_or, slice_get-map}
use Rattle.mcv_judge.specs.Answers.{AnswersLeaf, AnswersLeaves}
use Rattle.mcv_judge.specs.PairsInMemory.{block_of, leg_of, legs_of, pairs_of}
use Rattle.mcv_pairs.specs.AddedPairs.{Adds}
use Rattle.mcv_judge.specs.Reason.{HasReasons}
use Rattle.mcv_pairs.specs.Gaps.{IsFirstGapOf}
use Rattle.mcv_pairs.specs.Reasons.{IsPickedFor}
use Rattle.mcv_pairs.proofs.AddedPairs.{all_leaf, leg_there}
use Rattle.mcv_pairs.proofs.PickedReasons.{adds_leaf}
use Rattle.mcv_pairs.proofs.AnsweredHasReasons.{leaves_have}
use Rattle.mcv_pairs.proofs.block.push_block.Goals as goal

pub returns-in-Some-clause-gap : goal.returns-in-Some-clause-gap
returns-in-Some-clause-gap c =
    let b = block_of c.args.block.now in
    let leaves = c.args.block.now.readable.now in
    let n = c.loop-number.number in
    let item = c.index-leaves-number.result in
    let before : All (HasReasons b) (legs_of (take n leaves)) = leaves_have b (legs_of (take n leaves)) c.loop-number.invariant.answered.pairs c.loop-number.invariant.answered.have in
    record {
      leaf = leg_of item;
      numbered = slice_get-map leg_of leaves n ∙ ap (option_map leg_of) (slice_get-get_or leaves n item c.loop-number-test.true ∙ ap Some (sym c.index-leaves-number.is));
      first = subst (λ (o : Option ℕ). IfSome o (λ at. IsFirstGapOf b (leg_of item) at)) c.in-Some.is c.in_ok-at.ensures.gap;
      before = subst (All (HasReasons b)) (sym (take-map leg_of n leaves)) before;
    }

pub loop-number-preserved : goal.loop-number-preserved
loop-number-preserved c =
    let b = block_of c.args.block.now in
    let leaves = c.args.block.now.readable.now in
    let n = c.loop-number.number in
    let item = c.index-leaves-number.result in
    let old = pairs_of c.args.pairs.now.items in
    let now = pairs_of c.loop-number.pairs.items in
    let new = pairs_of c.push_leaf.new.pairs.items in
    let more : legs_of (take (n + 1) leaves) ≡ legs_of (take n leaves) ++ leg_of item ∷ [] = map_more leg_of leaves n item c.loop-number-test.true ∙ ap (λ d. legs_of (take n leaves) ++ leg_of d ∷ []) (sym c.index-leaves-number.is) in
    let own : Adds (AnswersLeaf b (leg_of item)) now new = subst (λ (o : Option ℕ). IfNone o (Adds (AnswersLeaf b (leg_of item)) now new)) c.in_default.is c.in_ok-at.ensures.answered in
    let own_picked : Adds (All (IsPickedFor b (leg_of item))) now new = subst (λ (o : Option ℕ). IfNone o (Adds (All (IsPickedFor b (leg_of item))) now new)) c.in_default.is c.in_ok-at.ensures.picked in
    record {
      answered = subst (λ ls. Adds (AnswersLeaves b ls) old new) (sym more) (adds_leaf b (legs_of (take n leaves)) (leg_of item) old now new c.loop-number.invariant.answered own);
      picked = all_leaf b (leg_of item) old now new (leg_there leaves n item c.loop-number-test.true c.index-leaves-number.is) c.loop-number.invariant.picked own_picked;
    }
