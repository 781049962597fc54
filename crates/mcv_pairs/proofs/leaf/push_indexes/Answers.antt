use Rattle.std.proofs.Common.{◌≡◌, ◌++◌, ◌∷◌, [], Option, Some, None, get_or, subst, arith}
use Rattle.std.specs.Option.{option_map}
use Rattle.mcv_base.specs.declared.request.ServerId.{ServerId}
use Rattle.mcv_cert.specs.Pair.{reason_of}
use Rattle.mcv_cert.specs.declared.pair.Reason.{Reason}
use Rattle.mcv_judge.specs.Faults.{AreLegsRising}
use Rattle.mcv_judge.specs.PairsInMemory.{block_of, leg_of, pairs_of}
use Rattle.mcv_judge.proofs.Servers.{servers_counted}
use Rattle.mcv_picks.specs.Reasons.{IsReasonAt, whole_reason}
use Rattle.mcv_pairs.specs.AddedPairs.{pair_with}
use Rattle.mcv_pairs.specs.Gaps.{IsSized}
use Rattle.mcv_pairs.specs.Reasons.{IsPickedFor}
use Rattle.mcv_pairs.proofs.AddedPairs.{all_next, picked_for_one}
use Rattle.mcv_pairs.proofs.PickedReasons.{adds_next, grown, no_reason, server_there}
use Rattle.mcv_pairs.proofs.AnsweredHasReasons.{each_has}
use Rattle.mcv_pairs.proofs.leaf.push_indexes.Goals as goal

pub returns-in_default-clause-gap : goal.returns-in_default-clause-gap
returns-in_default-clause-gap c =
    let b = block_of c.args.block.now in
    let leaf = leg_of c.args.leaf.now in
    let servers = c.args.leaf.now.servers.now in
    let i = c.loop-index.index in
    let zero : ServerId = record { 0 = 0 } in
    let x = (get_or servers i zero).0 in
    let none : IsReasonAt c.args.picks.now leaf i x None = subst (λ (o : Option Reason). IsReasonAt c.args.picks.now leaf i x (option_map reason_of o)) c.in_default.is c.in_ok-reason.ensures in
    let count = servers_counted servers in
    let within = c.loop-index-test.true in
    record {
      index = omega arith;
      gap = no_reason b leaf i x (subst IsSized c.requires.picks c.requires.sized) (server_there servers i zero within) (subst (λ legs. whole_reason b.can_be_acknowledged legs leaf ≡ None) c.requires.picks c.requires.whole) (subst (λ legs. IsReasonAt legs leaf i x None) c.requires.picks none);
      before = each_has b leaf i c.loop-index.invariant.answered.pairs c.loop-index.invariant.answered.have;
    }

pub loop-index-preserved : goal.loop-index-preserved
loop-index-preserved c =
    let b = block_of c.args.block.now in
    let leaf = leg_of c.args.leaf.now in
    let servers = c.args.leaf.now.servers.now in
    let i = c.loop-index.index in
    let zero : ServerId = record { 0 = 0 } in
    let x = (get_or servers i zero).0 in
    let r = reason_of c.in-Some.reason in
    let picked : IsReasonAt c.args.picks.now leaf i x (Some r) = subst (λ (o : Option Reason). IsReasonAt c.args.picks.now leaf i x (option_map reason_of o)) c.in-Some.is c.in_ok-reason.ensures in
    let picked_own = subst (λ legs. IsReasonAt legs leaf i x (Some r)) c.requires.picks picked in
    let server = server_there servers i zero c.loop-index-test.true in
    let old = pairs_of c.args.pairs.now.items in
    let now = pairs_of c.loop-index.pairs.items in
    let new = pairs_of c.push.new.self.items in
    let more : new ≡ now ++ pair_with b leaf r ∷ [] = grown c.loop-index.pairs.items c.push.new.self.items c.in_ok-pair_with.field-0 (pair_with b leaf r) c.in_ok-push.ensures.items c.in_ok-pair_with.ensures in
    record {
      answered = adds_next b leaf i x old now new r (subst AreLegsRising c.requires.picks c.requires.rising) server picked_own c.loop-index.invariant.answered more;
      picked = all_next (IsPickedFor b leaf) old now new (pair_with b leaf r) c.loop-index.invariant.picked more
          (picked_for_one b leaf i x r server (subst (λ legs. whole_reason b.can_be_acknowledged legs leaf ≡ None) c.requires.picks c.requires.whole) picked_own);
    }
