-- The handles that a JSON value names (mcrouter wiki, Config Files and List of Route Handles; limits are own).
use Rattle.std.specs.Prelude.{◌≡◌, ℕ, zero, suc, ◌+◌, ◌==◌, nat_lt, List, [], ◌∷◌, length, map, take, drop, position, slice_index_or, Option, Some, None, Result, Ok, Err, Vec, if◌then◌else◌, codes, bytes_eq}
use Rattle.std.specs.List.{range_with_len}
use Rattle.std.specs.declared.alloc.Global.{Global}
use Rattle.serde_json.specs.Data.{Data, string, Items, Members}
use Rattle.serde_json.specs.Find.{get, as_str, as_array, as_object}
use Rattle.mcv_pools.specs.declared.symbol.HashFunc.TheVariants.{Ch3}
use Rattle.mcv_names.specs.declared.fault.FaultKind.{FaultKind}
use Rattle.mcv_names.specs.declared.fault.FaultKind.TheVariants.{WrongKind, Limit, LeftOut}
use Rattle.mcv_names.specs.declared.fault.ReadFault.{ReadFault}
use Rattle.mcv_names.specs.declared.fault.ReadFault.TheVariants.{Memory}
use Rattle.mcv_config.specs.declared.config.NamedRoute.{NamedRoute}
use Rattle.mcv_names.specs.declared.handle.Many.{Many}
use Rattle.mcv_names.specs.declared.handle.Handle.{Handle}
use Rattle.mcv_names.specs.declared.handle.Handle.TheVariants as handles
use Rattle.mcv_names.specs.declared.handle.Object.TheVariants as objects
use Rattle.mcv_names.specs.Fault.{Read, good, bad, refused, ◌>>=◌, also}
use Rattle.mcv_names.specs.Handles.{handle_named, is_elsewhere, key_fault, keys_read, stray_fault, type_read}
use Rattle.mcv_config.specs.Hash.{HashValue, hash_read}
use Rattle.mcv_names.specs.Lists.{each, items_list, required, some_items}
use Rattle.mcv_config.specs.Numbers.{seconds_or, seconds_read}
use Rattle.mcv_names.specs.Path.{key_step}
use Rattle.mcv_config.specs.ConfigValue.{Named, ShadowValue, pool, server, null, error, many, warm_up, migrate, no_named, nameds_of}
use Rattle.mcv_config.specs.Pools.{Table, pool_named, pool_read}
use Rattle.mcv_config.specs.Selectors.{selector_fields}
use Rattle.mcv_config.specs.Shadows.{shadows_read}
use Rattle.mcv_config.specs.Walk.{SoFar, Reader, Children, taken, two_under, with_pool}

-- ---- children

-- a list that is not empty
abbrev pub listed : Reader → SoFar → List ℕ → List Data → Children
listed reader w path ds = some_items path ds >>= each reader w path 0

-- the servers of pool i, each a pool of its own: they are handles too, one level deeper
unfoldable pub servers : ℕ → SoFar → List ℕ → ℕ → Children
servers depth w path i =
    let n = length (slice_index_or w.pools.servers i []) in
    if depth == 0 then refused Limit path else
    (if nat_lt w.room n then refused Limit path else good (map (server i) (range_with_len 0 n), taken n w))

abbrev pub only_child : Named × SoFar → List Named × SoFar
only_child x = (x.0 ∷ [], x.1)

-- ---- texts

-- what comes before the first bar, and what follows it
abbrev pub cut_at : List ℕ → Option ℕ → Option (List ℕ × List ℕ)
cut_at text None = None
cut_at text (Some i) = Some (take i text, drop (i + 1) text)

unfoldable pub cut : List ℕ → Option (List ℕ × List ℕ)
cut text = cut_at text (position (λ b. b == 124) text)

-- what follows `Pool|`, where a text begins so
abbrev pub pool_prefix : List ℕ
pool_prefix = codes "Pool|"

-- the children that a text names: a pool's servers, or one route
unfoldable pub text_children : ℕ → Reader → SoFar → List ℕ → List ℕ → Children
text_children depth reader w path text =
    if bytes_eq (take 5 text) pool_prefix then pool_named w.pools path (drop 5 text) >>= servers depth w path
    else (reader w path (string text) >>= λ (x : Named × SoFar). good (only_child x))

-- a handle with these children
abbrev pub with_children : Many → List Named × SoFar → Read (Named × SoFar)
with_children kind xs = good (many kind (nameds_of xs.0), xs.1)

-- a pool under no other hash, without shadows
abbrev pub plain_pool : ℕ → Named
plain_pool i = pool i Ch3 [] [] no_named

-- a name alone
abbrev pub of_name : Result Handle FaultKind → List ℕ → SoFar → Read (Named × SoFar)
of_name (Err kind) path w = refused kind path
of_name (Ok handles.Pool) path w = refused WrongKind path
of_name (Ok handles.Null) path w = good (null, w)
of_name (Ok handles.Error) path w = good (error, w)
of_name (Ok (handles.Many kind)) path w = refused WrongKind path
of_name (Ok handles.WarmUp) path w = refused WrongKind path
of_name (Ok handles.Migrate) path w = refused WrongKind path
of_name (Ok (handles.Selector s)) path w = refused WrongKind path

-- a name, a bar and a text; that of an ErrorRoute isn't used (own)
abbrev pub of_name_and_text : ℕ → Reader → SoFar → List ℕ → Result Handle FaultKind → List ℕ → Read (Named × SoFar)
of_name_and_text depth reader w path (Err kind) text = refused kind path
of_name_and_text depth reader w path (Ok handles.Pool) text = pool_named w.pools path text >>= λ (i : ℕ). good (plain_pool i, w)
of_name_and_text depth reader w path (Ok handles.Null) text = refused WrongKind path
of_name_and_text depth reader w path (Ok handles.Error) text = good (error, w)
of_name_and_text depth reader w path (Ok (handles.Many kind)) text = text_children depth reader w path text >>= with_children kind
of_name_and_text depth reader w path (Ok handles.WarmUp) text = refused WrongKind path
of_name_and_text depth reader w path (Ok handles.Migrate) text = refused WrongKind path
of_name_and_text depth reader w path (Ok (handles.Selector s)) text = refused WrongKind path

abbrev pub of_cut : ℕ → Reader → SoFar → List ℕ → List ℕ → Option (List ℕ × List ℕ) → Read (Named × SoFar)
of_cut depth reader w path text None = of_name (handle_named text) path w
of_cut depth reader w path text (Some x) = of_name_and_text depth reader w path (handle_named x.0) x.1

unfoldable pub text_route : ℕ → Reader → SoFar → List ℕ → List ℕ → Read (Named × SoFar)
text_route depth reader w path text =
    if is_elsewhere text then refused LeftOut path else of_cut depth reader w path text (cut text)

-- ---- the fields of objects

-- a pool object goes behind the pools that are there
unfoldable pub pool_object : SoFar → List ℕ → Data → Read (ℕ × SoFar)
pool_object w path d =
    pool_read w.table path [] d >>= λ (x : List ℕ × Table).
    good (length w.pools.servers, with_pool x.0 x.1 w)

-- a pool's name, or a pool object
abbrev pub pool_value : SoFar → List ℕ → Data → Option (List ℕ) → Read (ℕ × SoFar)
pool_value w path d (Some name) = pool_named w.pools path name >>= λ (i : ℕ). good (i, w)
pool_value w path d None = pool_object w path d

unfoldable pub pool_field : SoFar → List ℕ → Data → Read (ℕ × SoFar)
pool_field w path d =
    required (get (codes "pool") d) path >>= λ (p : Data).
    pool_value w (key_step path (codes "pool")) p (as_str p)

-- a pool with its hash and its shadows
abbrev pub shadowed : ℕ → HashValue → List ShadowValue → Named
shadowed i hash shadows = pool i hash.0 hash.1 (map (λ s. s.0) shadows) (nameds_of (map (λ s. s.1) shadows))

unfoldable pub pool_fields : Reader → SoFar → List ℕ → Data → Read (Named × SoFar)
pool_fields reader w path d =
    pool_field w path d >>= λ (x : ℕ × SoFar).
    hash_read (key_step path (codes "hash")) (get (codes "hash") d) >>= λ (hash : HashValue).
    shadows_read reader x.1 (key_step path (codes "shadows")) (get (codes "shadows") d) >>= λ (shadows : List ShadowValue × SoFar).
    good (shadowed x.0 hash shadows.0, shadows.1)

-- a text, a list, or one route
abbrev pub children_value : ℕ → Reader → SoFar → List ℕ → Data → Option (List ℕ) → Option Items → Children
children_value depth reader w path d (Some text) o = text_children depth reader w path text
children_value depth reader w path d None (Some ds) = listed reader w path (items_list ds)
children_value depth reader w path d None None = reader w path d >>= λ (x : Named × SoFar). good (only_child x)

unfoldable pub children_field : ℕ → Reader → SoFar → List ℕ → Data → Children
children_field depth reader w path d =
    required (get (codes "children") d) path >>= λ (c : Data).
    children_value depth reader w (key_step path (codes "children")) c (as_str c) (as_array c)

-- the exptime of the add, which is 0 where there is no such key (own)
unfoldable pub exptime_read : List ℕ → Data → Read ℕ
exptime_read path d = seconds_or 0 (key_step path (codes "exptime")) (get (codes "exptime") d)

unfoldable pub start_read : List ℕ → Data → Read ℕ
start_read path d = required (get (codes "start_time") d) path >>= seconds_read (key_step path (codes "start_time"))

-- the interval, which is an hour where there is no such key (own)
unfoldable pub interval_read : List ℕ → Data → Read ℕ
interval_read path d = seconds_or 3600 (key_step path (codes "interval")) (get (codes "interval") d)

-- cold and warm, with the exptime of the add
unfoldable pub warm_up_fields : Reader → SoFar → List ℕ → Data → Read (Named × SoFar)
warm_up_fields reader w path d =
    two_under reader w path (codes "cold") (codes "warm") d >>= λ (x : (Named × Named) × SoFar).
    exptime_read path d >>= λ (exptime : ℕ).
    good (warm_up x.0.0 x.0.1 exptime, x.1)

-- from and to, with the start and the interval
unfoldable pub migrate_fields : Reader → SoFar → List ℕ → Data → Read (Named × SoFar)
migrate_fields reader w path d =
    two_under reader w path (codes "from") (codes "to") d >>= λ (x : (Named × Named) × SoFar).
    start_read path d >>= λ (start : ℕ).
    interval_read path d >>= λ (interval : ℕ).
    good (migrate x.0.0 x.0.1 start interval, x.1)

unfoldable pub fields : ℕ → Reader → SoFar → List ℕ → Data → Handle → Read (Named × SoFar)
fields depth reader w path d handles.Pool = pool_fields reader w path d
fields depth reader w path d handles.Null = good (null, w)
fields depth reader w path d handles.Error = good (error, w)
fields depth reader w path d (handles.Many kind) = children_field depth reader w path d >>= with_children kind
fields depth reader w path d handles.WarmUp = warm_up_fields reader w path d
fields depth reader w path d handles.Migrate = migrate_fields reader w path d
fields depth reader w path d (handles.Selector s) = selector_fields s reader w path d

-- ---- routes

-- an object whose type is read has the keys of its handle; of another, keys that no handle has are faults too
abbrev pub of_type : ℕ → Reader → SoFar → List ℕ → Data → Members → Read Handle → Read (Named × SoFar)
of_type depth reader w path d ms (good handle) = also (keys_read (key_fault (objects.Handle handle)) path ms) (fields depth reader w path d handle)
of_type depth reader w path d ms (bad faults) = also (keys_read stray_fault path ms) (bad faults)

unfoldable pub object_route : ℕ → Reader → SoFar → List ℕ → Data → Members → Read (Named × SoFar)
object_route depth reader w path d ms = of_type depth reader w path d ms (type_read path d)

abbrev pub handle_of : ℕ → Reader → SoFar → List ℕ → Data → Option (List ℕ) → Option Members → Read (Named × SoFar)
handle_of depth reader w path d (Some text) o = text_route depth reader w path text
handle_of depth reader w path d None (Some ms) = object_route depth reader w path d ms
handle_of depth reader w path d None None = refused WrongKind path

-- what is read where there is room for one handle more
abbrev pub in_room : ℕ → List ℕ → Read (Named × SoFar) → Read (Named × SoFar)
in_room zero path read = refused Limit path
in_room (suc room) path read = read

-- a handle, with this many levels of handles left for it and those below it
unfoldable pub route : ℕ → Reader
route zero w path d = refused Limit path
route (suc depth) w path d = in_room w.room path (handle_of depth (route depth) (taken 1 w) path d (as_str d) (as_object d))

-- the child alone, or memory ran out
abbrev pub IsOnly : NamedRoute → Result (Vec NamedRoute Global) ReadFault → Type 0
IsOnly child (Ok v) = v.items ≡ child ∷ []
IsOnly child (Err e) = e ≡ Memory
