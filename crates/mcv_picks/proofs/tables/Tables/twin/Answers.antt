use Rattle.std.proofs.Common.{ap, ◌∙◌}
use Rattle.std.specs.Option.{option_map}
use Rattle.std.specs.Prelude.{find}
use Rattle.mcv_judge.specs.PairsInMemory.{leg_of}
use Rattle.mcv_judge.specs.Reason.{is_twin}
use Rattle.mcv_picks.specs.Picks.{borrowed}
use Rattle.mcv_picks.proofs.tables.Tables.twin.Goals as goal

pub returns : goal.returns
returns c =
    ap (option_map borrowed) (c.copied.ensures ∙ c.get.ensures.value)
    ∙ c.self.invariant.0 (c.args.leaf.now.symbol, c.args.leaf.now.servers)
    ∙ ap (find (is_twin (leg_of c.args.leaf.now))) c.self.view_is
