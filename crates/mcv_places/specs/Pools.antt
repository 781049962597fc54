-- Where the servers of a PoolRoute stand in the JSON value of a configuration.
use Rattle.std.specs.Prelude.{ℕ, List, Option, Some, None, codes, option_and_then, option_map}
use Rattle.serde_json.specs.Data.{Data}
use Rattle.serde_json.specs.Find.{as_str, get}
use Rattle.mcv_config.specs.Routes.{cut}
use Rattle.mcv_places.specs.Pointer.{item_pointer, key_pointer}
use Rattle.mcv_places.specs.Site.{Name, Site, site_at, value, text, server}

-- the pool of a name, under `pools`
abbrev pub named_pool : List ℕ → List ℕ
named_pool name = key_pointer (codes "/pools") name

-- the pool of a text `PoolRoute|A`
abbrev pub text_pool : List ℕ → Option (List ℕ)
text_pool t = option_map (λ x. named_pool x.1) (cut t)

-- a pool that is named, or one that stands in the route
abbrev pub pool_or_name : (pointer : List ℕ) → Option (List ℕ) → List ℕ
pool_or_name pointer (Some name) = named_pool name
pool_or_name pointer None = key_pointer pointer (codes "pool")

-- the pool of an object
abbrev pub object_pool : (pointer : List ℕ) → Data → Option (List ℕ)
object_pool pointer d = option_map (λ p. pool_or_name pointer (as_str p)) (get (codes "pool") d)

-- the pool of a PoolRoute that is a text, or an object
abbrev pub value_pool : (pointer : List ℕ) → Data → Option (List ℕ) → Option (List ℕ)
value_pool pointer d (Some t) = text_pool t
value_pool pointer d None = object_pool pointer d

-- the pool of the PoolRoute that is named so
abbrev pub pool_pointer : (pointer : List ℕ) → Name → Option (List ℕ)
pool_pointer pointer (value d) = value_pool pointer d (as_str d)
pool_pointer pointer (text t) = text_pool t
pool_pointer pointer (server pool i) = Some (named_pool pool)

-- the number of the server in the list of the pool, of the one at an index of the PoolRoute: a server that is a pool of its own has its own number
abbrev pub server_number : Name → (index : ℕ) → ℕ
server_number (value d) index = index
server_number (text t) index = index
server_number (server pool i) index = i

-- the server at an index of the PoolRoute at a site
abbrev pub server_pointer : (index : ℕ) → Site → Option (List ℕ)
server_pointer index s = option_map (λ p. item_pointer (key_pointer p (codes "servers")) (server_number s.name index)) (pool_pointer s.pointer s.name)

-- where the handle is at a position of a route
abbrev pub handle_at : Data → (route : ℕ) → (position : List ℕ) → Option (List ℕ)
handle_at d route position = option_map (λ (s : Site). s.pointer) (site_at d route position)

-- where the server is at an index of the PoolRoute at a position of a route
abbrev pub server_at : Data → (route : ℕ) → (position : List ℕ) → (index : ℕ) → Option (List ℕ)
server_at d route position index = option_and_then (server_pointer index) (site_at d route position)
