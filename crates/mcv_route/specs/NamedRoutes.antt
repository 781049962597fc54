-- The routes that a configuration names: each handle as a tree, and each symbol with its number (own).
use Rattle.std.specs.Prelude.{ℕ, List, [], ◌∷◌, ◌++◌, length, map, unwrap_or, slice_index, slice_index_or}
use Rattle.std.specs.List.{flat_map}
use Rattle.mcv_pools.specs.declared.symbol.HashFunc.{HashFunc}
use Rattle.mcv_pools.specs.declared.symbol.HashFunc.TheVariants.{Ch3}
use Rattle.mcv_pools.specs.Symbol.{SymbolValue, same_symbol}
use Rattle.mcv_pools.specs.Table.{number_in, numbered}
use Rattle.mcv_config.specs.ConfigValue.{Named, Nameds, ConfigValue, no_named, named}
use Rattle.mcv_config.specs.ConfigValue as config
use Rattle.mcv_route.specs.Tree.{Pool, Tree, Trees, pool, null, error, many, warm_up, migrate, prefix_selector, operation_selector, none, child}
use Rattle.mcv_route.specs.Routes.{RoutesValue}

abbrev pub pool_at : List (List ℕ) → ℕ → List ℕ
pool_at pools i = slice_index_or pools i []

-- one server of a pool, as a pool of its own
abbrev pub server_at : List (List ℕ) → ℕ → ℕ → List ℕ
server_at pools i k = slice_index (pool_at pools i) k ∷ []

-- the symbol of a pool: its hash function with the salt, over all its servers (mcrouter wiki, PoolRoute)
abbrev pub symbol_of : HashFunc → List ℕ → List ℕ → SymbolValue
symbol_of func salt servers = record { func = func; salt = salt; n = length servers }

abbrev mutual
  -- the symbols of a route in the order of the walk: a handle's own, and then those below it
  pub symbols_in : List (List ℕ) → Named → List SymbolValue
  symbols_in pools (config.pool i func salt ranges targets) = symbol_of func salt (pool_at pools i) ∷ symbols_below pools targets
  symbols_in pools (config.server i k) = symbol_of Ch3 [] (server_at pools i k) ∷ []
  symbols_in pools config.null = []
  symbols_in pools config.error = []
  symbols_in pools (config.many kind ts) = symbols_below pools ts
  symbols_in pools (config.warm_up cold warm exptime) = symbols_in pools cold ++ symbols_in pools warm
  symbols_in pools (config.migrate from to start interval) = symbols_in pools from ++ symbols_in pools to
  symbols_in pools (config.prefix_selector prefixes ts) = symbols_below pools ts
  symbols_in pools (config.operation_selector ops ts) = symbols_below pools ts

  pub symbols_below : List (List ℕ) → Nameds → List SymbolValue
  symbols_below pools no_named = []
  symbols_below pools (named t ts) = symbols_in pools t ++ symbols_below pools ts

-- a symbol's number is its place in the table
abbrev pub number_of : List SymbolValue → SymbolValue → ℕ
number_of symbols symbol = unwrap_or (number_in same_symbol symbols symbol) 0

-- these servers under a hash, with the number of their symbol
abbrev pub pool_named : List SymbolValue → HashFunc → List ℕ → List ℕ → Pool
pool_named symbols func salt servers = record { symbol = number_of symbols (symbol_of func salt servers); servers = servers }

abbrev mutual
  -- a route as a tree, under the table of symbols
  pub tree_named : List SymbolValue → List (List ℕ) → Named → Tree
  tree_named symbols pools (config.pool i func salt ranges targets) = pool (pool_named symbols func salt (pool_at pools i)) ranges (trees_named symbols pools targets)
  tree_named symbols pools (config.server i k) = pool (pool_named symbols Ch3 [] (server_at pools i k)) [] none
  tree_named symbols pools config.null = null
  tree_named symbols pools config.error = error
  tree_named symbols pools (config.many kind ts) = many kind (trees_named symbols pools ts)
  tree_named symbols pools (config.warm_up cold warm exptime) = warm_up (tree_named symbols pools cold) (tree_named symbols pools warm) exptime
  tree_named symbols pools (config.migrate from to start interval) = migrate (tree_named symbols pools from) (tree_named symbols pools to) start interval
  tree_named symbols pools (config.prefix_selector prefixes ts) = prefix_selector prefixes (trees_named symbols pools ts)
  tree_named symbols pools (config.operation_selector ops ts) = operation_selector ops (trees_named symbols pools ts)

  pub trees_named : List SymbolValue → List (List ℕ) → Nameds → Trees
  trees_named symbols pools no_named = none
  trees_named symbols pools (named t ts) = child (tree_named symbols pools t) (trees_named symbols pools ts)

-- the table of the symbols of all routes, numbered by first appearance in the walk of the routes in their order
abbrev pub symbols_named : ConfigValue → List SymbolValue
symbols_named p = numbered same_symbol (flat_map (λ e. symbols_in p.pools e.route) p.entries)

abbrev pub routes_named : ConfigValue → RoutesValue
routes_named p = record {
  servers = p.servers;
  symbols = symbols_named p;
  entries = map (λ e. record { aliases = e.aliases; tree = tree_named (symbols_named p) p.pools e.route }) p.entries;
  window = 0;
}
