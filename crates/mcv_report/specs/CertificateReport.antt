-- The report on a certificate (own). docs/report.schema.json has its schema.
use Rattle.std.specs.Prelude.{ℕ, List, [], ◌∷◌, Option, Some, None, codes, map, unwrap_or}
use Rattle.serde_json.specs.Data.{Data}
use Rattle.mcv_base.specs.Position.{position_text}
use Rattle.mcv_cert.specs.Escape.{escaped}
use Rattle.mcv_cert.specs.Pair.{CertificateValue, PairValue}
use Rattle.mcv_cert.specs.Reason.{ReasonValue, never, twin, same, all}
use Rattle.mcv_places.specs.Pools.{handle_at}
use Rattle.mcv_report.specs.Json.{list_from, number_from, number_or_null, object_from, schema_version, text_from}

abbrev pub reason_name : ReasonValue → List ℕ
reason_name never = codes "never"
reason_name (twin leg) = codes "twin"
reason_name (same index leg) = codes "same"
reason_name (all index legs) = codes "all"

-- the index of the leaf's hash, where the reason is for one alone
abbrev pub reason_index : ReasonValue → Option ℕ
reason_index never = None
reason_index (twin leg) = None
reason_index (same index leg) = Some index
reason_index (all index legs) = Some index

-- the positions of the delete's legs
abbrev pub reason_legs : ReasonValue → List (List ℕ)
reason_legs never = []
reason_legs (twin leg) = leg ∷ []
reason_legs (same index leg) = leg ∷ []
reason_legs (all index legs) = legs

unfoldable pub pair_report : (document : Data) → PairValue → Data
pair_report d p = object_from (
    (codes "class", text_from (escaped p.place.spot.class))
    ∷ (codes "era", number_from p.place.spot.era)
    ∷ (codes "get_era", number_from p.place.spot.get_era)
    ∷ (codes "index", number_or_null (reason_index p.reason))
    ∷ (codes "leaf", text_from (position_text p.place.leaf))
    ∷ (codes "leaf_pointer", text_from (unwrap_or (handle_at d p.place.spot.route p.place.leaf) []))
    ∷ (codes "legs", list_from (map (λ leg. text_from (position_text leg)) (reason_legs p.reason)))
    ∷ (codes "reason", text_from (reason_name p.reason))
    ∷ (codes "route", number_from p.place.spot.route) ∷ [])

unfoldable pub covered_report : (document : Data) → CertificateValue → Data
covered_report d c = object_from (
    (codes "certificate", list_from (map (pair_report d) c.pairs))
    ∷ (codes "schema_version", number_from schema_version)
    ∷ (codes "verdict", text_from (codes "covered"))
    ∷ (codes "window", number_from c.window) ∷ [])
