-- What a configuration names: servers, pools and routes by their numbers, without where they lie in memory.
use Rattle.std.specs.Prelude.{◌≡◌, ◌≢◌, true, ℕ, ◌<◌, ◌≤◌, List, [], ◌∷◌, ◌++◌, Option, Some, None, map, length, slice_index_or, option_map}
use Rattle.std.specs.List.{All, flat_map}
use Rattle.mcv_base.specs.Server.{is_server}
use Rattle.mcv_base.specs.declared.operation.Op.{Op}
use Rattle.mcv_names.specs.declared.handle.Many.{Many}
use Rattle.mcv_pools.specs.declared.symbol.HashFunc.{HashFunc}
use Rattle.mcv_pools.specs.Table.{IsOneToOne}
use Rattle.mcv_config.specs.Aliases.{IsAlias, alias_limit}
use Rattle.mcv_config.specs.declared.config.ConfigParts.{ConfigParts}
use Rattle.mcv_config.specs.declared.config.Entry.{Entry}
use Rattle.mcv_config.specs.declared.config.Pool.{Pool}
use Rattle.mcv_config.specs.declared.config.NamedRoute.{NamedRoute}
use Rattle.mcv_config.specs.declared.config.NamedRoute.TheOpen.{NamedRoute-F, NamedPolicy-F, NamedPrefix-F, NamedShadow-F}
use Rattle.mcv_config.specs.declared.config.NamedRoute.TheFolds.{fold-NamedRoute, fold-NamedPolicy, fold-NamedPrefix, fold-NamedShadow}
use Rattle.mcv_config.specs.declared.config.NamedPolicy.{NamedPolicy}
use Rattle.mcv_config.specs.declared.config.NamedPrefix.{NamedPrefix}
use Rattle.mcv_config.specs.declared.config.NamedShadow.{NamedShadow}

-- the indexes from the first to the last
pub record Range : Type 0 where
  pub first : ℕ
  pub last : ℕ

-- A handle with all below it, in the order of the table of handles (mcrouter wiki, List of Route Handles).
mutual
  pub data Named : Type 0 where
    -- a pool by its number, its hash function and salt, the ranges of the shadows, and their targets in the same order
    pool : ℕ → HashFunc → List ℕ → List Range → Nameds → Named
    -- one server of a pool, by its index in it, as a pool of its own
    server : ℕ → ℕ → Named
    null : Named
    error : Named
    many : Many → Nameds → Named
    -- cold, warm, and the exptime of the add
    warm_up : Named → Named → ℕ → Named
    -- from, to, the start and the interval
    migrate : Named → Named → ℕ → ℕ → Named
    -- the prefixes, and their routes in the same order with the wildcard after them
    prefix_selector : List (List ℕ) → Nameds → Named
    -- the operations of the policies, and their routes in the same order with the default's after them; None is a name that no request has
    operation_selector : List (Option Op) → Nameds → Named

  pub data Nameds : Type 0 where
    no_named : Nameds
    named : Named → Nameds → Nameds

pub record EntryValue : Type 0 where
  pub aliases : List (List ℕ)
  pub route : Named

pub record ConfigValue : Type 0 where
  -- the texts of the servers, in the order of their numbers
  pub servers : List (List ℕ)
  -- the servers of each pool: those of `pools` in the order of their names, then those that routes hold, as the reader meets them
  pub pools : List (List ℕ)
  pub entries : List EntryValue

-- ---- what a `ConfigParts` is

abbrev pub nameds_of : List Named → Nameds
nameds_of [] = no_named
nameds_of (t ∷ ts) = named t (nameds_of ts)

-- a shadow, with its target seen as what it names
abbrev pub ShadowValue : Type 0
ShadowValue = Range × Named

-- a prefix, with its route seen as what it names
abbrev pub PrefixValue : Type 0
PrefixValue = List ℕ × Named

-- a policy, with its route seen as what it names
abbrev pub PolicyValue : Type 0
PolicyValue = Option Op × Named

-- the route after all policies, if there is one
abbrev pub last_of : Option Named → List Named
last_of None = []
last_of (Some t) = t ∷ []

-- one level, with each route inside already seen as what it names
abbrev pub named_step : NamedRoute-F Named PolicyValue PrefixValue ShadowValue → Named
named_step (NamedRoute-F.Pool i func salt shadows) = pool i func salt.items (map (λ s. s.0) shadows.items) (nameds_of (map (λ s. s.1) shadows.items))
named_step (NamedRoute-F.Server i k) = server i k
named_step NamedRoute-F.Null = null
named_step NamedRoute-F.Error = error
named_step (NamedRoute-F.Many kind children) = many kind (nameds_of children.items)
named_step (NamedRoute-F.WarmUp cold warm exptime) = warm_up cold.value warm.value exptime
named_step (NamedRoute-F.Migrate from to start interval) = migrate from.value to.value start interval
named_step (NamedRoute-F.PrefixSelector policies wildcard) =
    prefix_selector (map (λ p. p.0) policies.items) (nameds_of (map (λ p. p.1) policies.items ++ last_of (option_map (λ r. r.value) wildcard)))
named_step (NamedRoute-F.OperationSelector policies default) =
    operation_selector (map (λ p. p.0) policies.items) (nameds_of (map (λ p. p.1) policies.items ++ last_of (option_map (λ r. r.value) default)))

abbrev pub policy_step : NamedPolicy-F Named PolicyValue PrefixValue ShadowValue → PolicyValue
policy_step p = (p.op, p.route)

abbrev pub prefix_step : NamedPrefix-F Named PolicyValue PrefixValue ShadowValue → PrefixValue
prefix_step p = (p.«prefix».items, p.route)

abbrev pub shadow_step : NamedShadow-F Named PolicyValue PrefixValue ShadowValue → ShadowValue
shadow_step s = (record { first = s.first; last = s.last }, s.target)

abbrev pub named_of : NamedRoute → Named
named_of = fold-NamedRoute Named PolicyValue PrefixValue ShadowValue named_step policy_step prefix_step shadow_step

abbrev pub policy_of : NamedPolicy → PolicyValue
policy_of = fold-NamedPolicy Named PolicyValue PrefixValue ShadowValue named_step policy_step prefix_step shadow_step

abbrev pub prefix_of : NamedPrefix → PrefixValue
prefix_of = fold-NamedPrefix Named PolicyValue PrefixValue ShadowValue named_step policy_step prefix_step shadow_step

abbrev pub shadow_of : NamedShadow → ShadowValue
shadow_of = fold-NamedShadow Named PolicyValue PrefixValue ShadowValue named_step policy_step prefix_step shadow_step

abbrev pub pool_servers : Pool → List ℕ
pool_servers p = map (λ s. s.0) p.servers.items

abbrev pub entry_value : Entry → EntryValue
entry_value e = record { aliases = e.aliases.items; route = named_of e.route }

abbrev pub config_value : ConfigParts → ConfigValue
config_value c = record { servers = c.servers; pools = map pool_servers c.pools.items; entries = map entry_value c.entries.items }

-- ---- what every configuration that a text names is

abbrev mutual
  -- each pool is there, each index is one of its servers, and each list of children has one or more
  pub IsSoundRoute : List (List ℕ) → Named → Type 0
  IsSoundRoute pools (pool i func salt ranges targets) = (i < length pools) × AreSoundRoutes pools targets
  IsSoundRoute pools (server i k) = (i < length pools) × (k < length (slice_index_or pools i []))
  IsSoundRoute pools null = Unit {0}
  IsSoundRoute pools error = Unit {0}
  IsSoundRoute pools (many kind ts) = (ts ≢ no_named) × AreSoundRoutes pools ts
  IsSoundRoute pools (warm_up cold warm exptime) = IsSoundRoute pools cold × IsSoundRoute pools warm
  IsSoundRoute pools (migrate from to start interval) = IsSoundRoute pools from × IsSoundRoute pools to
  IsSoundRoute pools (prefix_selector prefixes ts) = AreSoundRoutes pools ts
  IsSoundRoute pools (operation_selector ops ts) = AreSoundRoutes pools ts

  pub AreSoundRoutes : List (List ℕ) → Nameds → Type 0
  AreSoundRoutes pools no_named = Unit {0}
  AreSoundRoutes pools (named t ts) = IsSoundRoute pools t × AreSoundRoutes pools ts

-- one server or more, each in the table of so many servers
pub record IsSoundPool (servers : ℕ) (pool : List ℕ) : Type 0 where
  pub some : 0 < length pool
  pub known : All (λ s. s < servers) pool

-- one alias or more, each a routing prefix of key bytes that is not too long
pub record AreAliases (aliases : List (List ℕ)) : Type 0 where
  pub some : 0 < length aliases
  pub each : All (λ a. IsAlias a × (length a ≤ alias_limit)) aliases

-- the aliases of all routes, in the order of the routes
abbrev pub all_aliases : List EntryValue → List (List ℕ)
all_aliases entries = flat_map (λ e. e.aliases) entries

pub record IsSound (config : ConfigValue) : Type 0 where
  -- each server's text is a host, a colon and a port
  pub texts : All (λ text. is_server text ≡ true) config.servers
  -- no server and no alias comes twice
  pub once : IsOneToOne config.servers
  pub apart : IsOneToOne (all_aliases config.entries)
  pub pools : All (IsSoundPool (length config.servers)) config.pools
  -- one route or more
  pub some : 0 < length config.entries
  pub routes : All (λ e. IsSoundRoute config.pools e.route) config.entries
  pub aliases : All (λ e. AreAliases e.aliases) config.entries
