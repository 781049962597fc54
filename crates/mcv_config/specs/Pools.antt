-- The pools that a JSON value names, and their servers (mcrouter wiki, Config Files; numbers and limits are own).
use Rattle.std.specs.Prelude.{ℕ, ◌==◌, ◌&&◌, not, nat_lt, Bool, List, [], ◌∷◌, length, ⊤, Option, Some, None, if◌then◌else◌, codes, bytes_eq, unwrap_or}
use Rattle.serde_json.specs.Data.{Data, Items, Members}
use Rattle.serde_json.specs.Find.{get, as_str, as_array, as_object}
use Rattle.mcv_pools.specs.Table.{is_in, number_in, numbered, server_limit, with_entry}
use Rattle.mcv_names.specs.declared.fault.FaultKind.{FaultKind}
use Rattle.mcv_names.specs.declared.fault.FaultKind.TheVariants.{WrongKind, UnknownPool, Empty, Limit, BadServer, LeftOut}
use Rattle.mcv_names.specs.declared.handle.Object.TheVariants as objects
use Rattle.mcv_names.specs.Fault.{Read, good, refused, ◌>>=◌, also}
use Rattle.mcv_names.specs.Handles.{is_elsewhere, key_fault, keys_read}
use Rattle.mcv_names.specs.Lists.{each, each_member, items_list, member_names, required, text_read}
use Rattle.mcv_names.specs.Path.{key_step}
use Rattle.mcv_base.specs.Server.{is_server}

-- the texts of the servers, in the order of their numbers
abbrev pub Table : Type 0
Table = List (List ℕ)

-- ---- servers

-- a text that is a server's
abbrev pub server_text : List ℕ → List ℕ → Read (List ℕ)
server_text path text = if is_server text then good text else refused BadServer path

-- no further server has room (own)
abbrev pub is_full : Table → List ℕ → Bool
is_full table text = length table == server_limit && not (is_in bytes_eq table text)

-- the number of a server, and the table with it
abbrev pub entered : Table → List ℕ → ℕ × Table
entered table text = (unwrap_or (number_in bytes_eq (with_entry bytes_eq table text) text) 0, with_entry bytes_eq table text)

-- a server of the list at this path
unfoldable pub server_read : List ℕ → Table → List ℕ → Data → Read (ℕ × Table)
server_read list table path d =
    text_read (as_str d) path >>= λ (text : List ℕ).
    server_text path text >>= λ (server : List ℕ).
    (if is_full table server then refused Limit list else good (entered table server))

-- servers of one pool (own)
abbrev pub pool_limit : ℕ
pool_limit = 4096

-- one server or more, and no more than the limit
unfoldable pub listed_servers : Table → List ℕ → List Data → Read (List ℕ × Table)
listed_servers table path [] = refused Empty path
listed_servers table path (d ∷ ds) = if nat_lt pool_limit (length (d ∷ ds)) then refused Limit path else each (server_read path) table path 0 (d ∷ ds)

abbrev pub servers_of_list : Table → List ℕ → Option Items → Read (List ℕ × Table)
servers_of_list table path None = refused WrongKind path
servers_of_list table path (Some ds) = listed_servers table path (items_list ds)

unfoldable pub servers_read : Table → List ℕ → Data → Read (List ℕ × Table)
servers_read table path d =
    required (get (codes "servers") d) path >>= λ (s : Data).
    servers_of_list table (key_step path (codes "servers")) (as_array s)

-- ---- pools

-- a pool's name is a text where it is there; it isn't used
abbrev pub name_read : List ℕ → Option Data → Read ⊤
name_read path None = good tt
name_read path (Some d) = text_read (as_str d) path >>= λ (name : List ℕ). good tt

-- a pool is an object: an import or a macro in its place is left out, anything else is of the wrong kind
abbrev pub no_pool : Option (List ℕ) → FaultKind
no_pool None = WrongKind
no_pool (Some text) = if is_elsewhere text then LeftOut else WrongKind

abbrev pub pool_of_members : Table → List ℕ → Data → Option Members → Read (List ℕ × Table)
pool_of_members table path d None = refused (no_pool (as_str d)) path
pool_of_members table path d (Some ms) =
    also (keys_read (key_fault objects.Pool) path ms)
    (also (name_read (key_step path (codes "name")) (get (codes "name") d)) (servers_read table path d))

-- the servers of a pool; a pool under `pools` has its key as its name
unfoldable pub pool_read : Table → List ℕ → List ℕ → Data → Read (List ℕ × Table)
pool_read table path name d = pool_of_members table path d (as_object d)

-- the names of the pools, each with its servers; a pool's number is its place
pub record Pools : Type 0 where
  pub names : List (List ℕ)
  pub servers : List (List ℕ)

abbrev pub pools_of_members : List ℕ → Option Members → Read (Pools × Table)
pools_of_members path None = refused WrongKind path
pools_of_members path (Some ms) =
    each_member pool_read [] path ms >>= λ (x : List (List ℕ) × Table).
    good (record { names = numbered bytes_eq (member_names ms); servers = x.0 }, x.1)

abbrev pub no_pools : Pools × Table
no_pools = (record { names = []; servers = [] }, [])

-- no pools where there is no such key
abbrev pub pools_read : List ℕ → Option Data → Read (Pools × Table)
pools_read path None = good no_pools
pools_read path (Some d) = pools_of_members path (as_object d)

-- ---- pools by name

abbrev pub number_read : Option ℕ → List ℕ → Read ℕ
number_read None path = refused UnknownPool path
number_read (Some i) path = good i

-- the number of the pool with this name
unfoldable pub pool_named : Pools → List ℕ → List ℕ → Read ℕ
pool_named ps path name = if is_elsewhere name then refused LeftOut path else number_read (number_in bytes_eq ps.names name) path
