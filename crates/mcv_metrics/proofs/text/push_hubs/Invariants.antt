use Rattle.std.proofs.Common.{◌≡◌, ◌++◌, take}
use Rattle.std.specs.List.{flat_map}
use Rattle.mcv_metrics.specs.Text.{hub_sample}
use Rattle.mcv_metrics.proofs.text.push_hubs.Given as goal

abbrev pub invariant-loop-hub : goal.invariant-loop-hub
invariant-loop-hub l = l.text.items ≡ l.fn.text.items ++ flat_map (hub_sample l.metric) (take l.hub-index l.hubs)
