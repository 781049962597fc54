use Rattle.std.proofs.Common.{◌≡◌, map, take}
use Rattle.mcv_judge.specs.PairsInMemory.{numbers}
use Rattle.mcv_route.specs.Routes.{RoutesValue}
use Rattle.mcv_alike.specs.Numbers.{IsNumbering}
use Rattle.mcv_alike.specs.Alike.{server_text}
use Rattle.mcv_alike.proofs.numbering.Numbering.are_servers.Given as goal

-- the servers so far are the old ones
abbrev pub invariant-loop-index : goal.invariant-loop-index
invariant-loop-index l = (r n : RoutesValue) → IsNumbering r n l.self → map (server_text r) (numbers (take l.index l.olds)) ≡ map (server_text n) (numbers (take l.index l.news))
