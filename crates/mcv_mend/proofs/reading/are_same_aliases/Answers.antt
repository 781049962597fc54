use Rattle.std.proofs.Common.{◌∙◌, sym}
use Rattle.mcv_mend.proofs.SameAliases.{aliases_same}
use Rattle.mcv_mend.proofs.reading.are_same_aliases.Goals as goal

pub returns : goal.returns
returns c = λ is. aliases_same c.args.one.now.aliases.items c.args.other.now.aliases.items (sym c.eq.ensures ∙ is)
