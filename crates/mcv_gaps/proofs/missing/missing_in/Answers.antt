use Rattle.std.proofs.Common.{refl}
use Rattle.mcv_gaps.specs.Gaps.{wanteds_of}
use Rattle.mcv_gaps.proofs.MissedSoFar.{found_all, found_more, found_none}
use Rattle.mcv_gaps.proofs.missing.missing_in.Goals as goal

pub loop-one-init : goal.loop-one-init
loop-one-init c = found_none (wanteds_of c.args.wanted.now) (record { missing = c.new.result; seen = c.new-2.result }) c.new.ensures.items c.new-2.ensures.empty

pub loop-one-preserved : goal.loop-one-preserved
loop-one-preserved c =
    let now = c.in_ok-insert_all.ensures in
    found_more c.args.wanted.now c.loop-one.one-index c.one-item.result c.loop-one.found c.insert_all.new.found c.loop-one-test.true c.one-item.is c.loop-one.invariant now.only now.tells now.kept now.all

pub returns : goal.returns
returns c = record {
  only = c.loop-one.invariant.only;
  all = found_all c.args.wanted.now c.loop-one.one-index c.loop-one.found c.loop-one-test.false c.loop-one.invariant;
}
