use Rattle.std.proofs.Common.{◌<◌, ℕ}
use Rattle.mcv_hubs.specs.Choice.{IsHubOf}
use Rattle.mcv_desks.proofs.one_hub.one_hub.Given as goal

-- the keys so far have the hub of the first
abbrev pub invariant-loop-key : goal.invariant-loop-key
invariant-loop-key l = (k : ℕ) → k < l.key → IsHubOf l.choice l.request k l.hub
