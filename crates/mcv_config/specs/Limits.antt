-- How large what a configuration names may be: limits that every configuration that a text names keeps (own).
use Rattle.std.specs.Prelude.{ℕ, zero, suc, ◌+◌, ◌≤◌, length}
use Rattle.std.specs.List.{All, sum_by}
use Rattle.mcv_pools.specs.Table.{server_limit}
use Rattle.mcv_names.specs.Handles.{prefix_limit}
use Rattle.mcv_config.specs.Config.{node_limit}
use Rattle.mcv_config.specs.Entries.{depth_limit}
use Rattle.mcv_config.specs.Hash.{salt_limit}
use Rattle.mcv_config.specs.Numbers.{seconds_limit}
use Rattle.mcv_config.specs.ConfigValue.{Named, Nameds, ConfigValue, pool, server, null, error, many, warm_up, migrate, prefix_selector, operation_selector, no_named, named}
use Rattle.mcv_config.specs.Pools.{pool_limit}

abbrev mutual
  -- the handles of a route: its own, and those below it
  pub handles_in : Named → ℕ
  handles_in (pool i func salt ranges targets) = suc (handles_below targets)
  handles_in (server i k) = 1
  handles_in null = 1
  handles_in error = 1
  handles_in (many kind ts) = suc (handles_below ts)
  handles_in (warm_up cold warm exptime) = suc (handles_in cold + handles_in warm)
  handles_in (migrate from to start interval) = suc (handles_in from + handles_in to)
  handles_in (prefix_selector prefixes ts) = suc (handles_below ts)
  handles_in (operation_selector ops ts) = suc (handles_below ts)

  pub handles_below : Nameds → ℕ
  handles_below no_named = 0
  handles_below (named t ts) = handles_in t + handles_below ts

abbrev mutual
  -- at most n levels of handles, and in each of them the bytes of salts and prefixes and the seconds keep to their limits
  pub IsWithin : ℕ → Named → Type 0
  IsWithin zero t = ⊥
  IsWithin (suc n) (pool i func salt ranges targets) = (length salt ≤ salt_limit) × AreWithin n targets
  IsWithin (suc n) (server i k) = Unit {0}
  IsWithin (suc n) null = Unit {0}
  IsWithin (suc n) error = Unit {0}
  IsWithin (suc n) (many kind ts) = AreWithin n ts
  IsWithin (suc n) (warm_up cold warm exptime) = (exptime ≤ seconds_limit) × IsWithin n cold × IsWithin n warm
  IsWithin (suc n) (migrate from to start interval) = (start ≤ seconds_limit) × (interval ≤ seconds_limit) × IsWithin n from × IsWithin n to
  IsWithin (suc n) (prefix_selector prefixes ts) = All (λ p. length p ≤ prefix_limit) prefixes × AreWithin n ts
  IsWithin (suc n) (operation_selector ops ts) = AreWithin n ts

  pub AreWithin : ℕ → Nameds → Type 0
  AreWithin n no_named = Unit {0}
  AreWithin n (named t ts) = IsWithin n t × AreWithin n ts

-- The limits of aliases are in `AreAliases`.
pub record IsWithinLimits (config : ConfigValue) : Type 0 where
  -- distinct servers, and the servers of each pool
  pub servers : length config.servers ≤ server_limit
  pub pools : All (λ p. length p ≤ pool_limit) config.pools
  -- levels of handles in each route, and the handles of all routes together
  pub levels : All (λ e. IsWithin depth_limit e.route) config.entries
  pub handles : sum_by (λ e. handles_in e.route) config.entries ≤ node_limit
