use Rattle.std.proofs.Common.{not, sym, ap, ◌∙◌}
use Rattle.std.specs.Prelude.{is_some}
use Rattle.mcv_picks.specs.Picks.{borrowed}
use Rattle.mcv_picks.proofs.GatheredLegs.{none_there, there_still}
use Rattle.mcv_picks.proofs.SearchResults.{mapped_some}
use Rattle.mcv_picks.proofs.tables.is_each_there.Goals as goal

pub loop-index-preserved : goal.loop-index-preserved
loop-index-preserved c =
    let some = ap is_some (sym c.with.ensures) ∙ mapped_some borrowed c.with.result ∙ c.is_none.ensures ∙ ap not c.if-is_none.false in
    sym (there_still c.args.tables.now c.args.symbol c.args.server.0 c.args.servers.now c.loop-index.index c.loop-index-test.true some) ∙ c.loop-index.invariant

pub returns-then-is_none : goal.returns-then-is_none
returns-then-is_none c =
    let none = ap is_some (sym c.with.ensures) ∙ mapped_some borrowed c.with.result ∙ c.is_none.ensures ∙ ap not c.if-is_none.true in
    sym (ap is_some (none_there c.args.tables.now c.args.symbol c.args.server.0 c.args.servers.now c.loop-index.index c.loop-index-test.true none)) ∙ c.loop-index.invariant
