-- Choices: an index for each symbol of a table, in the table's order.
use Rattle.std.specs.Prelude.{ℕ, ◌<◌, List, map, length, slice_index}
use Rattle.mcv_pools.specs.Symbol.{SymbolValue}

-- each symbol has the index that the hash gives it at this hashed part
abbrev pub chosen_each : (SymbolValue → List ℕ → ℕ) → List SymbolValue → List ℕ → List ℕ
chosen_each chosen symbols part = map (λ symbol. chosen symbol part) symbols

-- the number of servers of each symbol
abbrev pub server_counts : List SymbolValue → List ℕ
server_counts symbols = map (λ symbol. symbol.n) symbols

-- each symbol has an index below its number of servers (own)
abbrev pub HasIndexEach : List SymbolValue → List ℕ → Type 0
HasIndexEach symbols indexes = (s : ℕ) → s < length (server_counts symbols) → slice_index indexes s < slice_index (server_counts symbols) s
