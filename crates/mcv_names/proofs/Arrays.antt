-- The items of an array as a list.
use Rattle.std.proofs.Common.{◌≡◌, ℕ, ◌<◌, List, [], ◌∷◌, map, length, refl, ap, arith}
use Rattle.serde_json.specs.declared.value.Value.{Value}
use Rattle.serde_json.specs.View.{view, items_view}
use Rattle.mcv_names.specs.declared.fault.FaultKind.TheVariants.{Empty}
use Rattle.mcv_names.specs.Fault.{refused, good}
use Rattle.mcv_names.specs.Lists.{items_list, some_items}

pub items_list-items_view : (vs : List Value) → items_list (items_view vs) ≡ map view vs
items_list-items_view [] = refl
items_list-items_view (v ∷ vs) = ap (λ ds. view v ∷ ds) (items_list-items_view vs)

pub ruleset items = (items_list-items_view)

pub some_items-none : (path : List ℕ) (vs : List Value) → length vs ≡ 0 → some_items path (items_list (items_view vs)) ≡ refused Empty path
unfolding some_items
some_items-none path [] h = refl
some_items-none path (v ∷ vs) h = absurd (omega arith)

pub some_items-some : (path : List ℕ) (vs : List Value) → 0 < length vs → some_items path (items_list (items_view vs)) ≡ good (map view vs)
unfolding some_items
some_items-some path [] h = absurd (omega arith)
some_items-some path (v ∷ vs) h = ap (λ ds. good (view v ∷ ds)) (items_list-items_view vs)

pub ruleset lists = (some_items-none, some_items-some)
