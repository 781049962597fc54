-- The report on a finding (own). docs/report.schema.json has its schema.
use Rattle.std.specs.Prelude.{ℕ, zero, suc, List, [], ◌∷◌, ◌++◌, Option, Some, None, codes, if◌then◌else◌, map, nat_lt, slice_get, slice_index}
use Rattle.serde_json.specs.Data.{Data}
use Rattle.mcv_base.specs.declared.operation.Op.{Op}
use Rattle.mcv_base.specs.declared.operation.Op.TheVariants.{Delete}
use Rattle.mcv_base.specs.declared.reply.Outcome.{Outcome}
use Rattle.mcv_base.specs.Operation.{op_name}
use Rattle.mcv_base.specs.Position.{position_text}
use Rattle.mcv_cert.specs.Escape.{escaped}
use Rattle.mcv_pools.specs.Symbol.{SymbolValue}
use Rattle.mcv_route.specs.Outcomes.{History}
use Rattle.mcv_witness.specs.Text.{func_name, outcome_word}
use Rattle.mcv_explain.specs.Scene.{SceneValue, handle_pointer, leg_server, lost_server, route_of, server_pointer}
use Rattle.mcv_report.specs.Json.{list_from, number_from, number_or_null, object_from, schema_version, text_from}

-- ---- the eras

-- the break that opened an era: none opened the first
abbrev pub opened_at : (table : List ℕ) → (era : ℕ) → Option ℕ
opened_at table zero = None
opened_at table (suc k) = slice_get table k

-- an era: its number, the moment at which it begins, and the one at which it is over; the table has the breaks
unfoldable pub era_report : (table : List ℕ) → (era : ℕ) → Data
era_report table era = object_from (
    (codes "from", number_or_null (opened_at table era))
    ∷ (codes "number", number_from era)
    ∷ (codes "until", number_or_null (slice_get table era)) ∷ [])

-- ---- the legs

-- a leg: its position, its handle, its server, and what it answers
unfoldable pub leg_report : SceneValue → Op → List ℕ × Outcome → Data
leg_report s op e = object_from (
    (codes "handle", text_from (handle_pointer s e.0))
    ∷ (codes "outcome", text_from (outcome_word op e.1))
    ∷ (codes "position", text_from (position_text e.0))
    ∷ (codes "server", text_from (leg_server s e.0))
    ∷ (codes "server_pointer", text_from (server_pointer s e.0)) ∷ [])

abbrev pub leg_reports : SceneValue → Op → History → Data
leg_reports s op es = list_from (map (leg_report s op) es)

-- a request: its era, and the legs that answer it
unfoldable pub request_report : SceneValue → (table : List ℕ) → Op → (era : ℕ) → History → Data
request_report s table op era es = object_from ((codes "era", era_report table era) ∷ (codes "legs", leg_reports s op es) ∷ [])

-- ---- the indexes

-- the index that a symbol's hash picks
unfoldable pub index_report : SymbolValue → ℕ → Data
index_report y i = object_from (
    (codes "func", text_from (func_name y.func))
    ∷ (codes "index", number_from i)
    ∷ (codes "salt", text_from (escaped y.salt))
    ∷ (codes "servers", number_from y.n) ∷ [])

-- of the symbols over more than one server from number k on, in the order of the table
abbrev pub index_list : List ℕ → ℕ → List SymbolValue → List Data
index_list choice k [] = []
index_list choice k (y ∷ ys) = (if nat_lt 1 y.n then index_report y (slice_index choice k) ∷ [] else []) ++ index_list choice (suc k) ys

-- ---- the whole

-- the route: its number, and the pointer of what names it
unfoldable pub route_report : SceneValue → Data
route_report s = object_from ((codes "number", number_from (route_of s)) ∷ (codes "pointer", text_from (handle_pointer s [])) ∷ [])

-- the server that is lost, and where its pool has it
unfoldable pub server_report : SceneValue → Data
server_report s = object_from ((codes "name", text_from (lost_server s)) ∷ (codes "pointer", text_from (server_pointer s s.finding.place.leaf)) ∷ [])

-- class, key and salt are escaped as a class word is
unfoldable pub finding_report : SceneValue → (table : List ℕ) → Data
finding_report s table = object_from (
    (codes "class", text_from (escaped s.finding.place.spot.class))
    ∷ (codes "delete", request_report s table Delete s.finding.place.spot.era s.finding.deletes)
    ∷ (codes "get", request_report s table s.finding.op s.finding.place.spot.get_era s.finding.gets)
    ∷ (codes "indexes", list_from (index_list s.finding.choice 0 s.routes.symbols))
    ∷ (codes "key", text_from (escaped s.finding.key))
    ∷ (codes "leaf", text_from (position_text s.finding.place.leaf))
    ∷ (codes "operation", text_from (op_name s.finding.op))
    ∷ (codes "route", route_report s)
    ∷ (codes "server", server_report s) ∷ [])

unfoldable pub lost_report : SceneValue → (table : List ℕ) → Data
lost_report s table = object_from (
    (codes "finding", finding_report s table)
    ∷ (codes "schema_version", number_from schema_version)
    ∷ (codes "verdict", text_from (codes "lost"))
    ∷ (codes "window", number_from s.finding.window) ∷ [])
