use Rattle.std.proofs.Common.{◌≡◌, ◌++◌, map, take}
use Rattle.std.specs.List.{flat_map}
use Rattle.mcv_draw.specs.Label.{server_words}
use Rattle.mcv_draw.proofs.label.push_servers.Given as goal

abbrev pub invariant-loop-id : goal.invariant-loop-id
invariant-loop-id l = l.text.items ≡ l.initial.text.items ++ flat_map (server_words l.servers) (map (λ s. s.0) (take l.id-index l.ids))
