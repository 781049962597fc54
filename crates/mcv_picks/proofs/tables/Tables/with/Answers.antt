use Rattle.std.proofs.Common.{ap, ◌∙◌}
use Rattle.std.specs.Option.{option_map}
use Rattle.std.specs.Prelude.{find}
use Rattle.mcv_picks.specs.Picks.{borrowed}
use Rattle.mcv_picks.specs.Tables.{is_at}
use Rattle.mcv_picks.proofs.tables.Tables.with.Goals as goal

pub returns : goal.returns
returns c =
    ap (option_map borrowed) (c.copied.ensures ∙ c.get.ensures.value)
    ∙ c.self.invariant.1 (c.args.symbol, c.args.index, c.args.server.0)
    ∙ ap (find (is_at (c.args.symbol, c.args.index, c.args.server.0))) c.self.view_is
