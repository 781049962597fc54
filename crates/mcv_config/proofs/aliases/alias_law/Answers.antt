use Rattle.mcv_config.proofs.RoutingPrefixes.{alias_is, alias_from}
use Rattle.mcv_config.proofs.aliases.alias_law.Goals as goal

pub returns : goal.returns
returns c = λ text. (alias_is text, alias_from text)
