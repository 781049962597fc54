-- The routes of a configuration, each with the routing prefixes that select it (mcrouter wiki, Config Files).
use Rattle.std.specs.Prelude.{ℕ, List, [], ◌∷◌, Option, Some, None, codes}
use Rattle.serde_json.specs.Data.{Data, Items, Members}
use Rattle.serde_json.specs.Find.{get, as_array, as_object}
use Rattle.mcv_base.specs.Key.{default_prefix}
use Rattle.mcv_names.specs.declared.fault.FaultKind.TheVariants.{WrongKind}
use Rattle.mcv_names.specs.declared.handle.Object.TheVariants as objects
use Rattle.mcv_names.specs.Fault.{Read, good, refused, ◌>>=◌, also}
use Rattle.mcv_names.specs.Handles.{key_fault, keys_read}
use Rattle.mcv_names.specs.Lists.{each, items_list, some_items}
use Rattle.mcv_names.specs.Path.{key_step}
use Rattle.mcv_config.specs.Aliases.{aliases_field}
use Rattle.mcv_config.specs.ConfigValue.{EntryValue, Named}
use Rattle.mcv_config.specs.Routes.{route}
use Rattle.mcv_config.specs.Walk.{SoFar, route_under}

-- levels of handles (own)
abbrev pub depth_limit : ℕ
depth_limit = 32

-- the aliases so far, and how far the reader of routes has come
abbrev pub Turn : Type 0
Turn = List (List ℕ) × SoFar

-- the aliases, and then the route
unfoldable pub entry_fields : Turn → List ℕ → Data → Read (EntryValue × Turn)
entry_fields turn path d =
    aliases_field turn.0 path d >>= λ (a : List (List ℕ) × List (List ℕ)).
    route_under (route depth_limit) turn.1 path (codes "route") d >>= λ (x : Named × SoFar).
    good (record { aliases = a.0; route = x.0 }, (a.1, x.1))

abbrev pub entry_of_members : Turn → List ℕ → Data → Option Members → Read (EntryValue × Turn)
entry_of_members turn path d None = refused WrongKind path
entry_of_members turn path d (Some ms) = also (keys_read (key_fault objects.Entry) path ms) (entry_fields turn path d)

unfoldable pub entry_read : Turn → List ℕ → Data → Read (EntryValue × Turn)
entry_read turn path d = entry_of_members turn path d (as_object d)

-- one route or more; no alias comes twice in all of them
abbrev pub entries_of_list : SoFar → List ℕ → Option Items → Read (List EntryValue × Turn)
entries_of_list w path None = refused WrongKind path
entries_of_list w path (Some ds) = some_items path (items_list ds) >>= each entry_read ([], w) path 0

unfoldable pub entries_read : SoFar → List ℕ → Data → Read (List EntryValue × SoFar)
entries_read w path d =
    entries_of_list w path (as_array d) >>= λ (x : List EntryValue × Turn).
    good (x.0, x.1.1)

-- one route, which key words without a routing prefix take
abbrev pub only_entry : Named → List EntryValue
only_entry t = record { aliases = default_prefix ∷ []; route = t } ∷ []

-- `route`, or `routes`, and not both
abbrev pub routing : SoFar → List ℕ → Option Data → Option Data → Read (List EntryValue × SoFar)
routing w path None None = refused WrongKind path
routing w path (Some r) None = route depth_limit w (key_step path (codes "route")) r >>= λ (t : Named × SoFar). good (only_entry t.0, t.1)
routing w path None (Some rs) = entries_read w (key_step path (codes "routes")) rs
routing w path (Some r) (Some rs) = refused WrongKind path

unfoldable pub routing_read : SoFar → List ℕ → Data → Read (List EntryValue × SoFar)
routing_read w path d = routing w path (get (codes "route") d) (get (codes "routes") d)
