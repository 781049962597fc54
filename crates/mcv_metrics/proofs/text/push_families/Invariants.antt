use Rattle.std.proofs.Common.{◌≡◌, ◌++◌, take}
use Rattle.std.specs.List.{flat_map}
use Rattle.mcv_metrics.specs.Text.{family}
use Rattle.mcv_metrics.proofs.text.push_families.Given as goal

abbrev pub invariant-loop-metric : goal.invariant-loop-metric
invariant-loop-metric l = l.text.items ≡ l.fn.text.items ++ flat_map (family l.snapshot) (take l.metric-index l.metrics)
