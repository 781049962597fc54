-- What stands in the box of a handle, and on the edge to a child (own). The names of handles are mcrouter's (mcrouter wiki, List of
-- Route Handles), and keys are those of a configuration's JSON.
use Rattle.std.specs.Prelude.{ℕ, ◌-◌, ◌==◌, List, [], ◌++◌, Option, Some, None, codes, decimal, if◌then◌else◌, length, nat_lt, slice_get, take, unwrap_or}
use Rattle.std.specs.List.{flat_map}
use Rattle.mcv_base.specs.declared.operation.Op.{Op}
use Rattle.mcv_base.specs.Operation.{op_name}
use Rattle.mcv_cert.specs.Escape.{escaped}
use Rattle.mcv_route.specs.Tree.{AllAsync, AllInitial, AllSync, Failover, Many, MissFailover, Range, Tree, error, many, migrate, null, operation_selector, pool, prefix_selector, warm_up}
use Rattle.mcv_draw.specs.Children.{drawn_children, tree_count}

abbrev pub many_name : Many → List ℕ
many_name AllSync = codes "AllSyncRoute"
many_name AllInitial = codes "AllInitialRoute"
many_name AllAsync = codes "AllAsyncRoute"
many_name Failover = codes "FailoverRoute"
many_name MissFailover = codes "MissFailoverRoute"

abbrev pub handle_name : Tree → List ℕ
handle_name (pool q ranges targets) = codes "PoolRoute"
handle_name null = codes "NullRoute"
handle_name error = codes "ErrorRoute"
handle_name (many kind ts) = many_name kind
handle_name (warm_up cold warm exptime) = codes "WarmUpRoute"
handle_name (migrate from to start interval) = codes "MigrateRoute"
handle_name (prefix_selector prefixes ts) = codes "PrefixSelectorRoute"
handle_name (operation_selector ops ts) = codes "OperationSelectorRoute"

-- ---- in a box

-- the text that the table of servers has for a number
abbrev pub server_words : (table : List (List ℕ)) → ℕ → List ℕ
server_words table n = codes " " ++ unwrap_or (slice_get table n) []

-- how many servers there are behind the fourth
abbrev pub more_words : (servers : ℕ) → List ℕ
more_words n = if nat_lt 4 n then codes " and " ++ decimal (n - 4) ++ codes " more" else []

-- the first four servers of a pool, and how many more there are
abbrev pub pool_words : (table : List (List ℕ)) → (servers : List ℕ) → List ℕ
pool_words table servers = flat_map (server_words table) (take 4 servers) ++ more_words (length servers)

-- a key, and its number
abbrev pub keyed_words : (key : List ℕ) → ℕ → List ℕ
keyed_words key n = key ++ decimal n

-- the seconds of a warm-up's add
abbrev pub exptime_words : ℕ → List ℕ
exptime_words exptime = keyed_words (codes " exptime ") exptime

-- when a migration starts and how long it lasts, in seconds
abbrev pub migration_words : (start interval : ℕ) → List ℕ
migration_words start interval = keyed_words (codes " start_time ") start ++ keyed_words (codes " interval ") interval

abbrev pub own_words : (table : List (List ℕ)) → Tree → List ℕ
own_words table (pool q ranges targets) = pool_words table q.servers
own_words table null = []
own_words table error = []
own_words table (many kind ts) = []
own_words table (warm_up cold warm exptime) = exptime_words exptime
own_words table (migrate from to start interval) = migration_words start interval
own_words table (prefix_selector prefixes ts) = []
own_words table (operation_selector ops ts) = []

-- how many children there are, where not all of them are drawn
abbrev pub children_words : (children : ℕ) → List ℕ
children_words n = if nat_lt 60 n then codes ", first 60 of " ++ decimal n ++ codes " children" else []

abbrev pub label : (table : List (List ℕ)) → Tree → List ℕ
label table t = handle_name t ++ own_words table t ++ children_words (tree_count (drawn_children t))

-- ---- on an edge

-- the indexes for which a shadow's target gets a copy
abbrev pub shadow_word : Option Range → List ℕ
shadow_word None = codes "shadow"
shadow_word (Some r) = codes "shadow " ++ decimal r.first ++ codes "-" ++ decimal r.last

-- a policy's prefix, or the route behind all policies
abbrev pub prefix_word : Option (List ℕ) → List ℕ
prefix_word None = codes "wildcard"
prefix_word (Some word) = escaped word

-- a policy's operation; the name that no request has isn't kept
abbrev pub op_word : Option Op → List ℕ
op_word None = codes "(no request)"
op_word (Some op) = op_name op

abbrev pub operation_word : Option (Option Op) → List ℕ
operation_word None = codes "default_policy"
operation_word (Some op) = op_word op

-- the word of the edge to the child of a number
abbrev pub child_word : Tree → (number : ℕ) → List ℕ
child_word (pool q ranges targets) k = shadow_word (slice_get ranges k)
child_word null k = decimal k
child_word error k = decimal k
child_word (many kind ts) k = decimal k
child_word (warm_up cold warm exptime) k = if k == 1 then codes "warm" else codes "cold"
child_word (migrate from to start interval) k = if k == 0 then codes "from" else codes "to"
child_word (prefix_selector prefixes ts) k = prefix_word (slice_get prefixes k)
child_word (operation_selector ops ts) k = operation_word (slice_get ops k)
