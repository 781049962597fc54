-- The configuration that a text names, and the faults in it (mcrouter wiki, Config Files; faults and limits are own).
use Rattle.std.specs.Prelude.{◌≡◌, ℕ, ◌≤◌, ◌<◌, ◌⊎◌, List, [], length, Option, Some, None, codes, IsUtf8}
use Rattle.serde_json.specs.Data.{Data, Members}
use Rattle.serde_json.specs.Find.{get, as_object}
use Rattle.serde_json.specs.Read.{read}
use Rattle.mcv_comments.specs.Comments.{IsOpen, Strips}
use Rattle.mcv_names.specs.declared.fault.FaultKind.TheVariants.{NotJson, WrongKind, Limit}
use Rattle.mcv_names.specs.declared.handle.Object.TheVariants as objects
use Rattle.mcv_names.specs.Fault.{Fault, Read, good, refused, ◌>>=◌, also, HasFault}
use Rattle.mcv_names.specs.Handles.{key_fault, keys_read}
use Rattle.mcv_names.specs.Path.{key_step}
use Rattle.mcv_config.specs.Entries.{routing_read}
use Rattle.mcv_config.specs.ConfigValue.{ConfigValue, EntryValue}
use Rattle.mcv_config.specs.Pools.{Pools, Table, pools_read}
use Rattle.mcv_config.specs.Walk.{SoFar}

-- handles of all routes together (own)
abbrev pub node_limit : ℕ
node_limit = 4096

-- bytes of a configuration, with its comments (own)
abbrev pub size_limit : ℕ
size_limit = 16777216

-- before any route is read
abbrev pub at_first : Pools × Table → SoFar
at_first ps = record { room = node_limit; pools = ps.0; table = ps.1 }

abbrev pub config_with : List EntryValue × SoFar → ConfigValue
config_with t = record { servers = t.1.table; pools = t.1.pools.servers; entries = t.0 }

-- the pools, and then the routes
unfoldable pub config_read : List ℕ → Data → Read ConfigValue
config_read path d =
    pools_read (key_step path (codes "pools")) (get (codes "pools") d) >>= λ (ps : Pools × Table).
    routing_read (at_first ps) path d >>= λ (t : List EntryValue × SoFar).
    good (config_with t)

abbrev pub config_of_members : List ℕ → Data → Option Members → Read ConfigValue
config_of_members path d None = refused WrongKind path
config_of_members path d (Some ms) = also (keys_read (key_fault objects.Root) path ms) (config_read path d)

unfoldable pub root : List ℕ → Data → Read ConfigValue
root path d = config_of_members path d (as_object d)

-- ---- texts without comments

-- The text is the JSON value, and the value names the configuration.
abbrev pub NamesAsJson : List ℕ → ConfigValue → Type 0
NamesAsJson json config = (d : Data) × IsUtf8 json × (read json ≡ Some d) × (root [] d ≡ good config)

abbrev pub IsJson : List ℕ → Type 0
IsJson json = IsUtf8 json × (d : Data) × (read json ≡ Some d)

-- The text is no JSON, or is a value with the fault.
abbrev pub FaultyAsJson : List ℕ → Fault → Type 0
FaultyAsJson json fault =
    (¬ IsJson json × (fault ≡ record { kind = NotJson; path = codes "." }))
    ⊎ ((d : Data) × IsUtf8 json × (read json ≡ Some d) × HasFault (root [] d) fault)

-- ---- texts with comments

-- The text is not too long, and what it is without its comments names the configuration.
abbrev pub Names : List ℕ → ConfigValue → Type 0
Names text config = (length text ≤ size_limit) × (json : List ℕ) × Strips text json × NamesAsJson json config

-- The fault is in the text: the text is too long, and has no other fault; or it isn't, and a comment doesn't end, or the fault is in what the text is without its comments.
abbrev pub Faulty : List ℕ → Fault → Type 0
Faulty text fault =
    ((size_limit < length text) × (fault ≡ record { kind = Limit; path = codes "." }))
    ⊎ ((length text ≤ size_limit)
    × ((IsOpen text × (fault ≡ record { kind = NotJson; path = codes "." }))
    ⊎ ((json : List ℕ) × Strips text json × FaultyAsJson json fault)))
