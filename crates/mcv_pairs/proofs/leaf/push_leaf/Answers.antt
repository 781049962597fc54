use Rattle.std.proofs.Common.{◌≡◌, Some, ap, sym, ◌∙◌, subst}
use Rattle.std.specs.Option.{option_map}
use Rattle.mcv_cert.specs.Pair.{reason_of}
use Rattle.mcv_judge.specs.Faults.{AreLegsRising}
use Rattle.mcv_judge.specs.PairsInMemory.{block_of, leg_of, pairs_of}
use Rattle.mcv_picks.specs.Reasons.{whole_reason}
use Rattle.mcv_pairs.specs.AddedPairs.{pair_with}
use Rattle.mcv_pairs.specs.Reasons.{IsPickedFor}
use Rattle.mcv_pairs.proofs.AddedPairs.{all_one, picked_for_all}
use Rattle.mcv_pairs.proofs.PickedReasons.{adds_whole, grown}
use Rattle.mcv_pairs.proofs.leaf.push_leaf.Goals as goal

pub returns-clause-answered : goal.returns-clause-answered
returns-clause-answered c =
    let b = block_of c.args.block.now in
    let leaf = leg_of c.args.leaf.now in
    let r = reason_of c.in-Some.reason in
    let picked : whole_reason b.can_be_acknowledged c.args.picks.now leaf ≡ Some r = sym c.in_ok-whole.ensures ∙ ap (option_map reason_of) c.in-Some.is in
    adds_whole b leaf (pairs_of c.args.pairs.now.items) (pairs_of c.push.new.self.items) r (subst AreLegsRising c.requires.picks c.requires.rising) (subst (λ legs. whole_reason b.can_be_acknowledged legs leaf ≡ Some r) c.requires.picks picked)
    (grown c.args.pairs.now.items c.push.new.self.items c.in_ok-pair_with.field-0 (pair_with b leaf r) c.in_ok-push.ensures.items c.in_ok-pair_with.ensures)

pub returns-clause-picked : goal.returns-clause-picked
returns-clause-picked c =
    let b = block_of c.args.block.now in
    let leaf = leg_of c.args.leaf.now in
    let r = reason_of c.in-Some.reason in
    let picked : whole_reason b.can_be_acknowledged c.args.picks.now leaf ≡ Some r = sym c.in_ok-whole.ensures ∙ ap (option_map reason_of) c.in-Some.is in
    all_one (IsPickedFor b leaf) (pairs_of c.args.pairs.now.items) (pairs_of c.push.new.self.items) (pair_with b leaf r)
    (grown c.args.pairs.now.items c.push.new.self.items c.in_ok-pair_with.field-0 (pair_with b leaf r) c.in_ok-push.ensures.items c.in_ok-pair_with.ensures)
    (picked_for_all b leaf r (subst (λ legs. whole_reason b.can_be_acknowledged legs leaf ≡ Some r) c.requires.picks picked))
