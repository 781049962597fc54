use Rattle.std.proofs.Common.{◌≡◌, ◌<◌, length, get_or, Some, sym, ap, ◌∙◌, subst, arith}
use Rattle.mcv_base.specs.declared.request.ServerId.{ServerId}
use Rattle.mcv_judge.specs.PairsInMemory.{block_of, leg_of, numbers}
use Rattle.mcv_judge.specs.Reason.{LegValue, server_at}
use Rattle.mcv_judge.proofs.Servers.{servers_counted}
use Rattle.mcv_pairs.proofs.PickedReasons.{server_there}
use Rattle.mcv_certify.proofs.LeafOfGap.{leg_there, placed_at}
use Rattle.mcv_certify.proofs.gap.gap_of.Goals as goal

pub bounds-servers-gap : goal.bounds-servers-gap
bounds-servers-gap c =
    let legs = c.args.block.now.readable.now in
    let leg = get_or legs c.args.gap.leaf c.index-block-gap.result in
    let same : leg_of leg ≡ c.requires.leaf = leg_there legs c.args.gap.leaf c.index-block-gap.result c.requires.leaf c.requires.numbered in
    let within : c.args.gap.at < length (numbers leg.servers.now) = subst (λ (l : LegValue). c.args.gap.at < length l.servers) (sym same) c.requires.first.index in
    let count = servers_counted leg.servers.now in
    omega arith

pub returns : goal.returns
returns c =
    let legs = c.args.block.now.readable.now in
    let leg = get_or legs c.args.gap.leaf c.index-block-gap.result in
    let zero : ServerId = record { 0 = 0 } in
    let same : leg_of leg ≡ c.requires.leaf = leg_there legs c.args.gap.leaf c.index-block-gap.result c.requires.leaf c.requires.numbered in
    let within : c.args.gap.at < length (numbers leg.servers.now) = subst (λ (l : LegValue). c.args.gap.at < length l.servers) (sym same) c.requires.first.index in
    let count = servers_counted leg.servers.now in
    let has : server_at (leg_of leg) c.args.gap.at ≡ Some (get_or leg.servers.now c.args.gap.at zero).0 = server_there leg.servers.now c.args.gap.at zero (omega arith) in
    record {
      number = c.args.gap.leaf;
      gap = c.requires;
      placed = placed_at (block_of c.args.block.now) c.requires.leaf c.in_ok-copied.field-0.items c.in_ok-copy.field-0 c.in_ok-copied.ensures.same (c.in_ok-copy.ensures ∙ ap (λ (l : LegValue). l.position) same);
      has = subst (λ (l : LegValue). server_at l c.args.gap.at ≡ Some (get_or leg.servers.now c.args.gap.at zero).0) same has;
      bytes = c.in_ok-copied.ensures.bytes;
    }
