use Rattle.std.proofs.Common.{◌≡◌, drop}
use Rattle.mcv_route.specs.Children.{longest_from}
use Rattle.mcv_rules.specs.PlanInMemory.{prefixes_of}
use Rattle.mcv_rules.proofs.ChoosingHandles.{merged}
use Rattle.mcv_rules.proofs.layout.prefix_number.Given as goal

-- the longest so far and those that are left give the longest of all
abbrev pub invariant-loop-number : goal.invariant-loop-number
invariant-loop-number l =
    merged l.longest (longest_from l.number l.rest (prefixes_of (drop l.number l.policies))) ≡ longest_from 0 l.rest (prefixes_of l.policies)
