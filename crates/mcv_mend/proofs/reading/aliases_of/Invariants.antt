use Rattle.std.proofs.Common.{◌≡◌, map, take}
use Rattle.mcv_mend.specs.Aliases.{aliases_value}
use Rattle.mcv_mend.proofs.ReadAliases.{entry_aliases}
use Rattle.mcv_mend.proofs.reading.aliases_of.Given as goal

-- those of the entries so far
abbrev pub invariant-loop-entry : goal.invariant-loop-entry
invariant-loop-entry l = aliases_value l.all.items ≡ map entry_aliases (take l.entry-index l.entry-items)
