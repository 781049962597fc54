-- What callers see of `Routes`: the tables of servers and symbols, and the trees of the routes (own).
use Rattle.std.specs.Prelude.{◌≡◌, ◌≢◌, ℕ, ◌<◌, List, Some, length, slice_get, option_map}
use Rattle.std.specs.List.{All}
use Rattle.mcv_pools.specs.Symbol.{SymbolValue}
use Rattle.mcv_route.specs.Tree.{Pool, Tree, Trees, pool, null, error, many, warm_up, migrate, prefix_selector, operation_selector, none, child}

pub record RouteEntry : Type 0 where
  -- the routing prefixes that select the route
  pub aliases : List (List ℕ)
  pub tree : Tree

pub record RoutesValue : Type 0 where
  -- the texts of the servers, in the order of their numbers
  pub servers : List (List ℕ)
  -- in the order of their numbers
  pub symbols : List SymbolValue
  pub entries : List RouteEntry
  -- how far apart a delete and a get are looked at, in seconds; 0: in one era alone
  pub window : ℕ

-- the same routes, looked at within another window
abbrev pub within : ℕ → RoutesValue → RoutesValue
within w r = record r { window = w }

-- one server or more, each in the table, and as many as the pool's symbol has
pub record IsSoundPool (servers : ℕ) (symbols : List SymbolValue) (p : Pool) : Type 0 where
  pub some : 0 < length p.servers
  pub known : All (λ s. s < servers) p.servers
  pub sized : option_map (λ s. s.n) (slice_get symbols p.symbol) ≡ Some (length p.servers)

abbrev mutual
  -- each pool is sound, and each list of children has one or more
  pub IsSoundTree : ℕ → List SymbolValue → Tree → Type 0
  IsSoundTree servers symbols (pool p ranges targets) = IsSoundPool servers symbols p × AreSoundTrees servers symbols targets
  IsSoundTree servers symbols null = Unit {0}
  IsSoundTree servers symbols error = Unit {0}
  IsSoundTree servers symbols (many kind ts) = (ts ≢ none) × AreSoundTrees servers symbols ts
  IsSoundTree servers symbols (warm_up cold warm exptime) = IsSoundTree servers symbols cold × IsSoundTree servers symbols warm
  IsSoundTree servers symbols (migrate from to start interval) = IsSoundTree servers symbols from × IsSoundTree servers symbols to
  IsSoundTree servers symbols (prefix_selector prefixes ts) = AreSoundTrees servers symbols ts
  IsSoundTree servers symbols (operation_selector ops ts) = AreSoundTrees servers symbols ts

  pub AreSoundTrees : ℕ → List SymbolValue → Trees → Type 0
  AreSoundTrees servers symbols none = Unit {0}
  AreSoundTrees servers symbols (child t ts) = IsSoundTree servers symbols t × AreSoundTrees servers symbols ts

-- all trees are sound. That the tables have nothing twice is said by `Servers` and `Symbols`
abbrev pub IsSoundRoutes : RoutesValue → Type 0
IsSoundRoutes r = All (λ e. IsSoundTree (length r.servers) r.symbols e.tree) r.entries
