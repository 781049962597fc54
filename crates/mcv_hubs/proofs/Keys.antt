-- The hub of a key.
use Rattle.std.proofs.Common.{◌≡◌, ◌∙◌, ◌%◌, ◌++◌, ℕ, List, [], ap, append-nil}
use Rattle.mcv_pools.specs.Hash.{fnv, fnv_index}
use Rattle.mcv_pools.specs.Symbol.{SymbolValue}
use Rattle.mcv_hubs.specs.Choice.{hub_number}

-- a symbol without a salt, with a server for each hub
pub hub_by_symbol : (symbol : SymbolValue) (rest : List ℕ) → symbol.salt ≡ [] → fnv_index symbol rest ≡ hub_number symbol.n rest
hub_by_symbol symbol rest none = ap (λ salt. fnv (rest ++ salt) % symbol.n) none ∙ ap (λ bytes. fnv bytes % symbol.n) (append-nil rest)
