use Rattle.std.proofs.Common.{List, subst, sym, take}
use Rattle.std.proofs.lemmas.List.{take_all}
use Rattle.mcv_judge.specs.declared.block.Leg.{Leg}
use Rattle.mcv_judge.specs.PairsInMemory.{leg_of, legs_of}
use Rattle.mcv_judge.specs.Reason.{LegValue}
use Rattle.mcv_picks.proofs.SearchResults.{one_more}
use Rattle.mcv_gaps.specs.Least.{HaveServers}
use Rattle.mcv_gaps.proofs.Inserted.{more_servers}
use Rattle.mcv_gaps.proofs.missing.servers_of.Goals as goal

pub loop-leg-preserved : goal.loop-leg-preserved
loop-leg-preserved c =
    let legs = c.args.legs.now in
    let i = c.loop-leg.leg-index in
    let leg = c.leg-item.result in
    subst (λ (ls : List LegValue). HaveServers c.insert_servers.new.servers ls) (sym (one_more legs i leg c.loop-leg-test.true c.leg-item.is))
    (more_servers c.loop-leg.servers c.insert_servers.new.servers (legs_of (take i legs)) (leg_of leg) c.in_ok-insert_servers.ensures.kept c.in_ok-insert_servers.ensures.own c.loop-leg.invariant)

pub returns : goal.returns
returns c = subst (λ (ls : List Leg). HaveServers c.loop-leg.servers (legs_of ls)) (take_all c.loop-leg.leg-index c.args.legs.now c.loop-leg-test.false) c.loop-leg.invariant
