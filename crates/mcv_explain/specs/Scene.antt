-- A finding with the configuration that it is of: where each of its legs goes.
use Rattle.std.specs.Prelude.{ℕ, List, [], Option, option_and_then, option_map, slice_get, slice_index, unwrap_or}
use Rattle.serde_json.specs.Data.{Data}
use Rattle.serde_json.specs.View.{view}
use Rattle.mcv_places.specs.Pools.{handle_at, server_at}
use Rattle.mcv_route.specs.Places.{leaf_in}
use Rattle.mcv_route.specs.Routes.{RoutesValue}
use Rattle.mcv_route.specs.Tree.{Pool}
use Rattle.mcv_witness.specs.Finding.{FindingValue, finding_of}
use Rattle.mcv_explain.specs.declared.scene.Scene.{Scene}

pub record SceneValue : Type 0 where
  -- the JSON value of the configuration, and the routes that it names
  pub document : Data
  pub routes : RoutesValue
  pub finding : FindingValue

abbrev pub scene_of : Scene → SceneValue
scene_of s = record { document = view s.document.now; routes = s.routes.now; finding = finding_of s.finding.now }

-- ---- a leg of the finding's route, by its position

abbrev pub route_of : SceneValue → ℕ
route_of s = s.finding.place.spot.route

abbrev pub pool_at : SceneValue → (position : List ℕ) → Option Pool
pool_at s p = leaf_in s.routes (route_of s) p

-- the index that the finding gives the pool's symbol
abbrev pub index_in : SceneValue → Pool → ℕ
index_in s pool = slice_index s.finding.choice pool.symbol

abbrev pub leg_index : SceneValue → (position : List ℕ) → ℕ
leg_index s p = unwrap_or (option_map (index_in s) (pool_at s p)) 0

-- the text of a server by its number
abbrev pub server_text : SceneValue → ℕ → List ℕ
server_text s n = unwrap_or (slice_get s.routes.servers n) []

-- the server to which the leg goes
abbrev pub leg_server : SceneValue → (position : List ℕ) → List ℕ
leg_server s p = unwrap_or (option_map (server_text s) (option_and_then (λ pool. slice_get pool.servers (index_in s pool)) (pool_at s p))) []

-- the pointer of the leg's handle
abbrev pub handle_pointer : SceneValue → (position : List ℕ) → List ℕ
handle_pointer s p = unwrap_or (handle_at s.document (route_of s) p) []

-- the pointer of the leg's server
abbrev pub server_pointer : SceneValue → (position : List ℕ) → List ℕ
server_pointer s p = unwrap_or (server_at s.document (route_of s) p (leg_index s p)) []

-- the server that is lost
abbrev pub lost_server : SceneValue → List ℕ
lost_server s = server_text s s.finding.server
