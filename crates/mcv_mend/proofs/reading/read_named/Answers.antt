use Rattle.std.proofs.Common.{◌∙◌}
use Rattle.mcv_mend.proofs.ReadAliases.{named_aliases}
use Rattle.mcv_mend.proofs.reading.read_named.Goals as goal

pub returns-clause-aliases : goal.returns-clause-aliases
returns-clause-aliases c = c.in_ok-aliases.ensures ∙ named_aliases c.in_ok-config.config c.in_ok-routes.routes c.in_ok-routes.ensures
