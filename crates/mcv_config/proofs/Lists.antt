-- The servers of an array as a list.
use Rattle.std.proofs.Common.{◌≡◌, ℕ, ◌<◌, ◌≤◌, lt-ltb, le-ltb, ltb, true, false, List, [], ◌∷◌, map, length, refl, ap, ◌∙◌, arith}
use Rattle.std.proofs.lemmas.List.{length-map}
use Rattle.serde_json.specs.declared.value.Value.{Value}
use Rattle.serde_json.specs.View.{view, items_view}
use Rattle.mcv_names.specs.declared.fault.FaultKind.TheVariants.{Empty, Limit}
use Rattle.mcv_names.specs.Fault.{refused}
use Rattle.mcv_names.specs.Lists.{each, items_list}
use Rattle.mcv_names.proofs.Arrays.{items_list-items_view}
use Rattle.mcv_config.specs.Pools.{Table, listed_servers, server_read}

pub listed_servers-none : (table : Table) (path : List ℕ) (vs : List Value) → length vs ≡ 0 → listed_servers table path (items_list (items_view vs)) ≡ refused Empty path
unfolding listed_servers
listed_servers-none table path [] h = refl
listed_servers-none table path (v ∷ vs) h = absurd (omega arith)

many_items : (v : Value) (vs : List Value) → length (view v ∷ items_list (items_view vs)) ≡ length (v ∷ vs)
many_items v vs = ap (λ ds. length (view v ∷ ds)) (items_list-items_view vs) ∙ length-map (v ∷ vs) view

pub listed_servers-many : (table : Table) (path : List ℕ) (vs : List Value) → 4096 < length vs → listed_servers table path (items_list (items_view vs)) ≡ refused Limit path
unfolding listed_servers
listed_servers-many table path [] h = absurd (omega arith)
listed_servers-many table path (v ∷ vs) h = let t : ltb 4096 (length (view v ∷ items_list (items_view vs))) ≡ true = rw (many_items v vs) (lt-ltb _ _ h) in rw t

pub listed_servers-some : (table : Table) (path : List ℕ) (vs : List Value) → 0 < length vs → length vs ≤ 4096
    → listed_servers table path (items_list (items_view vs)) ≡ each (server_read path) table path 0 (map view vs)
unfolding listed_servers
listed_servers-some table path [] h k = absurd (omega arith)
listed_servers-some table path (v ∷ vs) h k =
    let t : ltb 4096 (length (view v ∷ items_list (items_view vs))) ≡ false = rw (many_items v vs) (le-ltb _ _ k) in
    rw t (ap (λ ds. each (server_read path) table path 0 (view v ∷ ds)) (items_list-items_view vs))

pub ruleset server_lists = (listed_servers-none, listed_servers-many, listed_servers-some)
