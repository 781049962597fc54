use Rattle.std.proofs.Common.{◌≡◌, take}
use Rattle.mcv_hubs.specs.Choice.{records_at}
use Rattle.mcv_hubs.proofs.choice.HubChoice.records_at.Given as goal

-- those so far
abbrev pub invariant-loop-number : goal.invariant-loop-number
invariant-loop-number l = l.found.items ≡ records_at l.self l.hub (take l.number-index l.records)
