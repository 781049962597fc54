use Rattle.std.proofs.Common.{◌≡◌, map, take}
use Rattle.std.specs.Prelude.{string_bytes}
use Rattle.mcv_net.proofs.launch.texts_of.Given as goal

-- the texts of the servers so far
abbrev pub invariant-loop-number : goal.invariant-loop-number
invariant-loop-number l = map string_bytes l.texts.items ≡ take l.number l.servers
