-- How large routes may be (own).
use Rattle.std.specs.Prelude.{ℕ, zero, suc, ◌+◌, ◌≤◌, length}
use Rattle.std.specs.List.{All, sum_by}
use Rattle.mcv_pools.specs.Table.{server_limit}
use Rattle.mcv_config.specs.Aliases.{alias_limit}
use Rattle.mcv_config.specs.Config.{node_limit}
use Rattle.mcv_config.specs.Entries.{depth_limit}
use Rattle.mcv_names.specs.Handles.{prefix_limit}
use Rattle.mcv_config.specs.Hash.{salt_limit}
use Rattle.mcv_config.specs.Numbers.{seconds_limit}
use Rattle.mcv_config.specs.Pools.{pool_limit}
use Rattle.mcv_route.specs.Routes.{RoutesValue}
use Rattle.mcv_route.specs.Tree.{Tree, Trees, pool, null, error, many, warm_up, migrate, prefix_selector, operation_selector, none, child}

abbrev mutual
  -- the handles of a tree: its own, and those below it; a server by itself is a pool's handle too
  pub handles_in : Tree → ℕ
  handles_in (pool p ranges targets) = suc (handles_below targets)
  handles_in null = 1
  handles_in error = 1
  handles_in (many kind ts) = suc (handles_below ts)
  handles_in (warm_up cold warm exptime) = suc (handles_in cold + handles_in warm)
  handles_in (migrate from to start interval) = suc (handles_in from + handles_in to)
  handles_in (prefix_selector prefixes ts) = suc (handles_below ts)
  handles_in (operation_selector ops ts) = suc (handles_below ts)

  pub handles_below : Trees → ℕ
  handles_below none = 0
  handles_below (child t ts) = handles_in t + handles_below ts

abbrev mutual
  -- at most n levels of handles, and in each of them the servers of a pool, the bytes of prefixes and the seconds keep to their limits
  pub IsWithin : ℕ → Tree → Type 0
  IsWithin zero t = ⊥
  IsWithin (suc n) (pool p ranges targets) = (length p.servers ≤ pool_limit) × AreWithin n targets
  IsWithin (suc n) null = Unit {0}
  IsWithin (suc n) error = Unit {0}
  IsWithin (suc n) (many kind ts) = AreWithin n ts
  IsWithin (suc n) (warm_up cold warm exptime) = (exptime ≤ seconds_limit) × IsWithin n cold × IsWithin n warm
  IsWithin (suc n) (migrate from to start interval) = (start ≤ seconds_limit) × (interval ≤ seconds_limit) × IsWithin n from × IsWithin n to
  IsWithin (suc n) (prefix_selector prefixes ts) = All (λ p. length p ≤ prefix_limit) prefixes × AreWithin n ts
  IsWithin (suc n) (operation_selector ops ts) = AreWithin n ts

  pub AreWithin : ℕ → Trees → Type 0
  AreWithin n none = Unit {0}
  AreWithin n (child t ts) = IsWithin n t × AreWithin n ts

pub record AreWithinLimits (r : RoutesValue) : Type 0 where
  -- levels of handles in each route, and the handles of all routes together
  pub levels : All (λ e. IsWithin depth_limit e.tree) r.entries
  pub handles : sum_by (λ e. handles_in e.tree) r.entries ≤ node_limit
  -- distinct servers
  pub servers : length r.servers ≤ server_limit
  -- bytes of salts and aliases
  pub salts : All (λ s. length s.salt ≤ salt_limit) r.symbols
  pub aliases : All (λ e. All (λ a. length a ≤ alias_limit) e.aliases) r.entries
