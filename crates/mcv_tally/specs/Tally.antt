-- Of which servers something is counted (own).
use Rattle.std.specs.Prelude.{◌≡◌, ℕ, List, map, string_bytes, vec_len}
use Rattle.std.specs.List.{All}
use Rattle.mcv_metrics.specs.declared.snapshot.ServerCounts.{ServerCounts}
use Rattle.mcv_tally.specs.declared.tally.HubTally.{HubTally}
use Rattle.mcv_tally.specs.declared.tally.ServerTally.{ServerTally}

-- the texts of the servers that are counted
abbrev pub tallied : List ServerTally → List (List ℕ)
tallied tallies = map (λ t. string_bytes t.server) tallies

-- the texts of the servers of which something is said
abbrev pub listed : List ServerCounts → List (List ℕ)
listed counts = map (λ c. string_bytes c.server) counts

-- each hub has a number for each of so many servers
abbrev pub HaveLevels : ℕ → List HubTally → Type 0
HaveLevels servers hubs = All (λ h. vec_len h.waiting ≡ servers) hubs
