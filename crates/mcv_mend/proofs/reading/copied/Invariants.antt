use Rattle.std.proofs.Common.{◌≡◌, map, take}
use Rattle.mcv_mend.specs.Aliases.{bytes_of}
use Rattle.mcv_mend.proofs.reading.copied.Given as goal

-- the copies so far
abbrev pub invariant-loop-prefix : goal.invariant-loop-prefix
invariant-loop-prefix l = map bytes_of l.all.items ≡ take l.prefix-index l.prefixes
