-- Reports nest no deeper than JSON is read.
use Rattle.std.proofs.Common.{◌≤◌, ℕ, suc, List, [], ◌∷◌, ◌++◌, map, Bool, true, false, cond, Option, Some, None, arith, slice_get, slice_index}
use Rattle.std.specs.Prelude.{nat_lt}
use Rattle.serde_json.specs.Data.{Data, null, boolean, number, string, array, object, Members, no_members, member, depth, items_depth, members_depth}
use Rattle.serde_json.specs.Read.{max_depth}
use Rattle.serde_json.specs.View.{items_of}
use Rattle.mcv_base.specs.Position.{position_text}
use Rattle.mcv_base.specs.declared.operation.Op.{Op}
use Rattle.mcv_base.specs.declared.operation.Op.TheVariants.{Delete}
use Rattle.mcv_base.specs.declared.reply.Outcome.{Outcome}
use Rattle.mcv_cert.specs.Pair.{CertificateValue, PairValue}
use Rattle.mcv_explain.specs.Scene.{SceneValue}
use Rattle.mcv_faults.specs.FaultName.{fault_name}
use Rattle.mcv_faults.specs.FaultPointer.{fault_pointer}
use Rattle.mcv_names.specs.Fault.{fault_number, fault_path}
use Rattle.mcv_names.specs.declared.fault.ConfigFault.{ConfigFault}
use Rattle.mcv_pools.specs.Symbol.{SymbolValue}
use Rattle.mcv_route.specs.Outcomes.{History}
use Rattle.mcv_report.specs.CertificateReport.{covered_report, pair_report, reason_index, reason_legs}
use Rattle.mcv_report.specs.FaultReport.{certificate_fault_report, column_of, config_fault_report, line_of, placed_fault_report, refused_report}
use Rattle.mcv_report.specs.FindingReport.{era_report, finding_report, index_list, index_report, leg_report, lost_report, opened_at, request_report, route_report, server_report}
use Rattle.mcv_report.specs.Json.{number_or_null, text_from}

-- ---- objects and lists

-- the members of an object; of another value, none
abbrev members_of : Data → Members
members_of null = no_members
members_of (boolean b) = no_members
members_of (number n) = no_members
members_of (string s) = no_members
members_of (array ds) = no_members
members_of (object ms) = ms

-- each of the members nests at most so deep
abbrev AreWithin : ℕ → Members → Type 0
AreWithin k no_members = Unit {0}
AreWithin k (member name d ms) = (depth d ≤ k) × AreWithin k ms

members_within : (k : ℕ) (ms : Members) → AreWithin k ms → members_depth ms ≤ k
members_within k no_members all = omega arith
members_within k (member name d ms) all =
    let first : depth d ≤ k = all.0 in
    let rest : members_depth ms ≤ k = members_within k ms all.1 in
    omega arith

object_within : (k : ℕ) (ms : Members) → AreWithin k ms → depth (object ms) ≤ suc k
object_within k ms all =
    let rest : members_depth ms ≤ k = members_within k ms all in
    omega arith

-- a list of values that nest at most so deep
items_within : {A : Type 0} (f : A → Data) (k : ℕ) (xs : List A) → ((x : A) → depth (f x) ≤ k) → items_depth (items_of (map f xs)) ≤ k
items_within f k [] each = omega arith
items_within f k (x ∷ xs) each =
    let first : depth (f x) ≤ k = each x in
    let rest : items_depth (items_of (map f xs)) ≤ k = items_within f k xs each in
    omega arith

one_deeper : (n k : ℕ) → n ≤ k → suc n ≤ suc k
one_deeper n k within = omega arith

flat : (k : ℕ) → 0 ≤ k
flat k = omega arith

number_within : (n : Option ℕ) (k : ℕ) → depth (number_or_null n) ≤ k
number_within None k = flat k
number_within (Some n) k = flat k

-- ---- of a finding

era_within : (table : List ℕ) (era : ℕ) → depth (era_report table era) ≤ 1
unfolding era_report
era_within table era = object_within 0 (members_of (era_report table era)) (number_within (opened_at table era) 0, (flat 0, (number_within (slice_get table era) 0, tt)))

leg_within : (s : SceneValue) (op : Op) (e : List ℕ × Outcome) → depth (leg_report s op e) ≤ 1
unfolding leg_report
leg_within s op e = object_within 0 (members_of (leg_report s op e)) (flat 0, (flat 0, (flat 0, (flat 0, (flat 0, tt)))))

request_within : (s : SceneValue) (table : List ℕ) (op : Op) (era : ℕ) (es : History) → depth (request_report s table op era es) ≤ 3
unfolding request_report
request_within s table op era es =
    let at : depth (era_report table era) ≤ 1 = era_within table era in
    let legs : items_depth (items_of (map (leg_report s op) es)) ≤ 1 = items_within (leg_report s op) 1 es (leg_within s op) in
    object_within 2 (members_of (request_report s table op era es)) (omega arith, (one_deeper _ 1 legs, tt))

index_within : (y : SymbolValue) (i : ℕ) → depth (index_report y i) ≤ 1
unfolding index_report
index_within y i = object_within 0 (members_of (index_report y i)) (flat 0, (flat 0, (flat 0, (flat 0, tt))))

indexes_within : (choice : List ℕ) (k : ℕ) (ys : List SymbolValue) → items_depth (items_of (index_list choice k ys)) ≤ 1
indexes_within choice k [] = omega arith
indexes_within choice k (y ∷ ys) = go (nat_lt 1 y.n) (indexes_within choice (suc k) ys)
  where
    go : (b : Bool) → items_depth (items_of (index_list choice (suc k) ys)) ≤ 1
        → items_depth (items_of (cond b (index_report y (slice_index choice k) ∷ []) [] ++ index_list choice (suc k) ys)) ≤ 1
    go true rest = let first : depth (index_report y (slice_index choice k)) ≤ 1 = index_within y (slice_index choice k) in omega arith
    go false rest = rest

route_within : (s : SceneValue) → depth (route_report s) ≤ 1
unfolding route_report
route_within s = object_within 0 (members_of (route_report s)) (flat 0, (flat 0, tt))

server_within : (s : SceneValue) → depth (server_report s) ≤ 1
unfolding server_report
server_within s = object_within 0 (members_of (server_report s)) (flat 0, (flat 0, tt))

finding_within : (s : SceneValue) (table : List ℕ) → depth (finding_report s table) ≤ 4
unfolding finding_report
finding_within s table =
    let indexes : items_depth (items_of (index_list s.finding.choice 0 s.routes.symbols)) ≤ 1 = indexes_within s.finding.choice 0 s.routes.symbols in
    let listed = one_deeper _ 1 indexes in
    let route : depth (route_report s) ≤ 1 = route_within s in
    let server : depth (server_report s) ≤ 1 = server_within s in
    object_within 3 (members_of (finding_report s table)) (
      flat 3,
      (
        request_within s table Delete s.finding.place.spot.era s.finding.deletes,
        (request_within s table s.finding.op s.finding.place.spot.get_era s.finding.gets, (omega arith, (flat 3, (flat 3, (flat 3, (omega arith, (omega arith, tt))))))),
      ),
    )

pub lost_within : (s : SceneValue) (table : List ℕ) → depth (lost_report s table) ≤ max_depth
unfolding lost_report
lost_within s table =
    let finding : depth (finding_report s table) ≤ 4 = finding_within s table in
    let whole : depth (lost_report s table) ≤ 5 = object_within 4 (members_of (lost_report s table)) (finding, (flat 4, (flat 4, (flat 4, tt)))) in
    omega arith

-- ---- of a certificate

pair_within : (d : Data) (p : PairValue) → depth (pair_report d p) ≤ 2
unfolding pair_report
pair_within d p =
    let legs : items_depth (items_of (map (λ leg. text_from (position_text leg)) (reason_legs p.reason))) ≤ 0 =
    items_within (λ leg. text_from (position_text leg)) 0 (reason_legs p.reason) (λ leg. flat 0) in
    object_within 1 (members_of (pair_report d p))
    (flat 1, (flat 1, (flat 1, (number_within (reason_index p.reason) 1, (flat 1, (flat 1, (one_deeper _ 0 legs, (flat 1, (flat 1, tt)))))))))

pub covered_within : (d : Data) (c : CertificateValue) → depth (covered_report d c) ≤ max_depth
unfolding covered_report
covered_within d c =
    let pairs : items_depth (items_of (map (pair_report d) c.pairs)) ≤ 2 = items_within (pair_report d) 2 c.pairs (pair_within d) in
    let whole : depth (covered_report d c) ≤ 4 = object_within 3 (members_of (covered_report d c)) (one_deeper _ 2 pairs, (flat 3, (flat 3, (flat 3, tt)))) in
    omega arith

-- ---- of a fault

placed_fault_within : (column line : Option ℕ) (name : List ℕ) (n : ℕ) (pointer : List ℕ) → depth (placed_fault_report column line name n pointer) ≤ 1
unfolding placed_fault_report
placed_fault_within column line name n pointer =
    object_within 0 (members_of (placed_fault_report column line name n pointer)) (number_within column 0, (flat 0, (number_within line 0, (flat 0, (flat 0, (flat 0, tt))))))

certificate_fault_within : (kind : List ℕ) (line : Option ℕ) (name : List ℕ) (n : ℕ) → depth (certificate_fault_report kind line name n) ≤ 1
unfolding certificate_fault_report
certificate_fault_within kind line name n =
    object_within 0 (members_of (certificate_fault_report kind line name n)) (flat 0, (flat 0, (number_within line 0, (flat 0, (flat 0, (flat 0, tt))))))

within_refused : (fault : Data) → depth fault ≤ 1 → depth (refused_report fault) ≤ max_depth
unfolding refused_report
within_refused fault within =
    let whole : depth (refused_report fault) ≤ 2 = object_within 1 (members_of (refused_report fault)) (within, (flat 1, (flat 1, tt))) in
    omega arith

pub refused_within : (f : ConfigFault) (place : Option (ℕ × ℕ)) → depth (refused_report (config_fault_report f place)) ≤ max_depth
refused_within f place =
    within_refused (config_fault_report f place) (placed_fault_within (column_of place) (line_of place) (fault_name f.kind) (fault_number f) (fault_pointer (fault_path f)))

pub certificate_refused_within : (kind : List ℕ) (line : Option ℕ) (name : List ℕ) (n : ℕ) → depth (refused_report (certificate_fault_report kind line name n)) ≤ max_depth
certificate_refused_within kind line name n = within_refused (certificate_fault_report kind line name n) (certificate_fault_within kind line name n)
