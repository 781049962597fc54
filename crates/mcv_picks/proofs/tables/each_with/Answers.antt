use Rattle.std.proofs.Common.{◌+◌, drop, map, sym, ap, ◌∙◌}
use Rattle.std.specs.Prelude.{is_some}
use Rattle.std.proofs.lemmas.List.{map-append}
use Rattle.mcv_judge.specs.PairsInMemory.{numbers}
use Rattle.mcv_picks.specs.Picks.{each_with, borrowed}
use Rattle.mcv_picks.proofs.GatheredLegs.{behind, gathered, none_there}
use Rattle.mcv_picks.proofs.tables.each_with.Goals as goal

pub returns-in-None : goal.returns-in-None
returns-in-None c =
    let legs = c.args.tables.now in
    let i = c.loop-index.index in
    sym (ap (behind (map borrowed c.loop-index.legs.items)) (none_there legs c.args.symbol c.args.server.0 c.args.servers.now i c.loop-index-test.true (ap is_some (sym c.in-None.ensures)))) ∙ c.loop-index.invariant

pub loop-index-preserved : goal.loop-index-preserved
loop-index-preserved c =
    let legs = c.args.tables.now in
    let i = c.loop-index.index in
    let later = each_with legs c.args.symbol c.args.server.0 (i + 1) (numbers (drop (i + 1) c.args.servers.now)) in
    ap (λ v. behind (map borrowed v) later) c.in_ok-push-in-Some.ensures.items
    ∙ ap (λ v. behind v later) (map-append borrowed c.loop-index.legs.items _)
    ∙ sym (gathered legs c.args.symbol c.args.server.0 c.args.servers.now i c.loop-index-test.true (map borrowed c.loop-index.legs.items) (borrowed c.in-Some.leg) c.in-Some.ensures)
    ∙ c.loop-index.invariant
