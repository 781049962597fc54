use Rattle.std.proofs.Common.{rules}
use Rattle.mcv_config.specs.Aliases.{alias_fault}
use Rattle.mcv_config.proofs.aliases.alias_fault.Goals as goal

pub returns-in-Some : goal.returns-in-Some
unfolding alias_fault
returns-in-Some c = search rules
