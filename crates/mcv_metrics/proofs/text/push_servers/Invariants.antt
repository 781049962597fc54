use Rattle.std.proofs.Common.{◌≡◌, ◌++◌, take}
use Rattle.std.specs.List.{flat_map}
use Rattle.mcv_metrics.specs.Text.{server_sample}
use Rattle.mcv_metrics.proofs.text.push_servers.Given as goal

abbrev pub invariant-loop-server : goal.invariant-loop-server
invariant-loop-server l = l.text.items ≡ l.fn.text.items ++ flat_map (server_sample l.metric) (take l.server-index l.servers)
