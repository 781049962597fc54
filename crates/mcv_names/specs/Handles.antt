-- The names of handles, keys and operations (mcrouter wiki, List of Route Handles; what is left out is own).
use Rattle.std.specs.Prelude.{ℕ, Bool, true, false, ◌==◌, ◌||◌, nat_lt, List, [], ◌∷◌, length, ⊤, Option, Some, None, Result, Ok, Err, if◌then◌else◌, slice_index, codes, bytes_eq}
use Rattle.serde_json.specs.Data.{Data, Members, no_members, member}
use Rattle.serde_json.specs.Find.{get, as_str}
use Rattle.mcv_base.specs.declared.operation.Op.{Op}
use Rattle.mcv_base.specs.declared.operation.Op.TheVariants.{Get, Gets, Set, Add, Replace, Append, Prepend, Cas, Delete, Touch, Incr, Decr}
use Rattle.mcv_base.specs.Operation.{op_name}
use Rattle.mcv_names.specs.declared.fault.FaultKind.{FaultKind}
use Rattle.mcv_names.specs.declared.fault.FaultKind.TheVariants.{UnknownKey, UnknownHandle, Limit, LeftOut}
use Rattle.mcv_names.specs.declared.handle.Many.TheVariants as many_handles
use Rattle.mcv_names.specs.declared.handle.Selector.{Selector}
use Rattle.mcv_names.specs.declared.handle.Selector.TheVariants as selectors
use Rattle.mcv_names.specs.declared.handle.Handle.{Handle}
use Rattle.mcv_names.specs.declared.handle.Handle.TheVariants as handles
use Rattle.mcv_names.specs.declared.handle.Object.{Object}
use Rattle.mcv_names.specs.declared.handle.Object.TheVariants as objects
use Rattle.mcv_names.specs.Fault.{Read, good, refused, ◌>>=◌, also}
use Rattle.mcv_names.specs.Lists.{required, text_read}
use Rattle.mcv_names.specs.Path.{key_step}

abbrev pub is_listed : List ℕ → List (List ℕ) → Bool
is_listed name [] = false
is_listed name (n ∷ ns) = if bytes_eq name n then true else is_listed name ns

-- ---- handles

-- handles of mcrouter's that mcv leaves out (mcrouter wiki, List of Route Handles)
abbrev pub left_out_handles : List (List ℕ)
left_out_handles =
    codes "RandomRoute" ∷ codes "LatestRoute" ∷ codes "AllFastestRoute" ∷ codes "AllMajorityRoute" ∷ codes "FailoverWithExptimeRoute"
    ∷ codes "HostIdRoute" ∷ codes "ModifyKeyRoute" ∷ codes "ModifyExptimeRoute" ∷ codes "RateLimitRoute" ∷ codes "OutstandingLimitRoute"
    ∷ codes "LoggingRoute" ∷ codes "DevNullRoute" ∷ codes "HashRoute" ∷ []

-- what a handle is called, or why there is none of that name
unfoldable pub handle_named : List ℕ → Result Handle FaultKind
handle_named name =
    if bytes_eq name (codes "PoolRoute") then Ok handles.Pool else
    (if bytes_eq name (codes "NullRoute") then Ok handles.Null else
    (if bytes_eq name (codes "ErrorRoute") then Ok handles.Error else
    (if bytes_eq name (codes "AllSyncRoute") then Ok (handles.Many many_handles.AllSync) else
    (if bytes_eq name (codes "AllInitialRoute") then Ok (handles.Many many_handles.AllInitial) else
    (if bytes_eq name (codes "AllAsyncRoute") then Ok (handles.Many many_handles.AllAsync) else
    (if bytes_eq name (codes "FailoverRoute") then Ok (handles.Many many_handles.Failover) else
    (if bytes_eq name (codes "MissFailoverRoute") then Ok (handles.Many many_handles.MissFailover) else
    (if bytes_eq name (codes "WarmUpRoute") then Ok handles.WarmUp else
    (if bytes_eq name (codes "MigrateRoute") then Ok handles.Migrate else
    (if bytes_eq name (codes "PrefixSelectorRoute") then Ok (handles.Selector selectors.Prefix) else
    (if bytes_eq name (codes "OperationSelectorRoute") then Ok (handles.Selector selectors.Operation) else
    (if is_listed name left_out_handles then Err LeftOut else Err UnknownHandle))))))))))))

abbrev pub handle_read : Result Handle FaultKind → List ℕ → Read Handle
handle_read (Ok handle) path = good handle
handle_read (Err kind) path = refused kind path

-- the handle that the `type` of an object names
unfoldable pub type_read : List ℕ → Data → Read Handle
type_read path d =
    required (get (codes "type") d) path >>= λ (name : Data).
    text_read (as_str name) (key_step path (codes "type")) >>= λ (text : List ℕ).
    handle_read (handle_named text) (key_step path (codes "type"))

-- ---- keys

-- where a selector's policies are
abbrev pub policies_key : Selector → List ℕ
policies_key selectors.Prefix = codes "policies"
policies_key selectors.Operation = codes "operation_policies"

-- where the route of all else is
abbrev pub default_key : Selector → List ℕ
default_key selectors.Prefix = codes "wildcard"
default_key selectors.Operation = codes "default_policy"

-- the keys of each object
abbrev pub keys : Object → List (List ℕ)
keys objects.Root = codes "pools" ∷ codes "route" ∷ codes "routes" ∷ []
keys objects.Entry = codes "aliases" ∷ codes "route" ∷ []
keys objects.Pool = codes "servers" ∷ codes "name" ∷ []
keys objects.Hash = codes "hash_func" ∷ codes "salt" ∷ []
keys objects.Shadow = codes "target" ∷ codes "index_range" ∷ []
keys (objects.Handle handles.Pool) = codes "type" ∷ codes "pool" ∷ codes "hash" ∷ codes "shadows" ∷ []
keys (objects.Handle handles.Null) = codes "type" ∷ []
keys (objects.Handle handles.Error) = codes "type" ∷ []
keys (objects.Handle (handles.Many many)) = codes "type" ∷ codes "children" ∷ []
keys (objects.Handle handles.WarmUp) = codes "type" ∷ codes "cold" ∷ codes "warm" ∷ codes "exptime" ∷ []
keys (objects.Handle handles.Migrate) = codes "type" ∷ codes "from" ∷ codes "to" ∷ codes "start_time" ∷ codes "interval" ∷ []
keys (objects.Handle (handles.Selector selector)) = codes "type" ∷ policies_key selector ∷ default_key selector ∷ []

-- keys of mcrouter's that are left out in every object
abbrev pub left_out_keys : List (List ℕ)
left_out_keys =
    codes "macros" ∷ codes "named_handles" ∷ codes "key_fraction_range" ∷ codes "weights" ∷ codes "rates"
    ∷ codes "failover_errors" ∷ codes "keep_routing_prefix" ∷ []

-- keys of mcrouter's that are left out in this object
abbrev pub left_out_here : Object → List (List ℕ)
left_out_here objects.Root = []
left_out_here objects.Entry = []
left_out_here objects.Pool = []
left_out_here objects.Hash = []
left_out_here objects.Shadow = []
left_out_here (objects.Handle handle) = codes "name" ∷ []

-- the fault of a key of an object, if it is one
unfoldable pub key_fault : Object → List ℕ → Option FaultKind
key_fault object key =
    if is_listed key left_out_keys then Some LeftOut else
    (if is_listed key (keys object) then None else
    (if is_listed key (left_out_here object) then Some LeftOut else Some UnknownKey))

-- the keys of all handles of mcv's
abbrev pub handle_keys : List (List ℕ)
handle_keys =
    codes "type" ∷ codes "pool" ∷ codes "hash" ∷ codes "shadows" ∷ codes "children" ∷ codes "cold" ∷ codes "warm" ∷ codes "exptime"
    ∷ codes "from" ∷ codes "to" ∷ codes "start_time" ∷ codes "interval" ∷ codes "policies" ∷ codes "wildcard"
    ∷ codes "operation_policies" ∷ codes "default_policy" ∷ []

-- the fault of a key that no handle has
unfoldable pub stray_fault : List ℕ → Option FaultKind
stray_fault key =
    if is_listed key left_out_keys then Some LeftOut else
    (if is_listed key handle_keys then None else
    (if bytes_eq key (codes "name") then Some LeftOut else Some UnknownKey))

abbrev pub key_read : Option FaultKind → List ℕ → Read ⊤
key_read None path = good tt
key_read (Some kind) path = refused kind path

-- each key passes
unfoldable pub keys_read : (List ℕ → Option FaultKind) → List ℕ → Members → Read ⊤
keys_read fault path no_members = good tt
keys_read fault path (member key d ms) = also (key_read (fault key) (key_step path key)) (keys_read fault path ms)

-- ---- operations

-- the first of these with this name
abbrev pub op_among : List Op → List ℕ → Option Op
op_among [] name = None
op_among (op ∷ ops) name = if bytes_eq (op_name op) name then Some op else op_among ops name

unfoldable pub op_named : List ℕ → Option Op
op_named = op_among (Get ∷ Gets ∷ Set ∷ Add ∷ Replace ∷ Append ∷ Prepend ∷ Cas ∷ Delete ∷ Touch ∷ Incr ∷ Decr ∷ [])

-- operations of mcrouter's that no request here has
abbrev pub other_operations : List (List ℕ)
other_operations = codes "lease-get" ∷ codes "lease-set" ∷ codes "metaget" ∷ []

-- ---- names of policies

-- bytes of a prefix (own)
abbrev pub prefix_limit : ℕ
prefix_limit = 200

abbrev pub op_fault : Option Op → List ℕ → Option FaultKind
op_fault (Some op) name = None
op_fault None name = if is_listed name other_operations then None else Some UnknownKey

-- the fault of a policy's name, if it is one
unfoldable pub name_fault : Selector → List ℕ → Option FaultKind
name_fault selectors.Prefix name = if nat_lt prefix_limit (length name) then Some Limit else None
name_fault selectors.Operation name = op_fault (op_named name) name

-- ---- texts that name what lies elsewhere

-- imports begin with `@`, macros with `%` (mcrouter wiki, JSON macros and imports)
unfoldable pub is_elsewhere : List ℕ → Bool
is_elsewhere text = slice_index text 0 == 64 || slice_index text 0 == 37
