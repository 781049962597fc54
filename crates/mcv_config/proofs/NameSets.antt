-- A name that is put into a set of texts goes last, where it isn't there yet.
use Rattle.std.proofs.Common.{◌≡◌, List, ◌++◌, ◌∷◌, [], Bool, true, false, cond, map, refl}
use Rattle.std.specs.List.{list_any}
use Rattle.std.proofs.lemmas.List.{map-append}
use Rattle.indexmap.specs.IndexSet.{insert_key}
use Rattle.mcv_pools.specs.Table.{with_entry}
use Rattle.mcv_pools.proofs.Tables.{list_any-map}

pub noted : {X Y : Type 0} (same : Y → Y → Bool) (f : X → Y) (xs : List X) (x : X) → map f (insert_key (λ y z. same (f y) (f z)) xs x) ≡ with_entry same (map f xs) (f x)
noted {X} same f xs x = rw (list_any-map (same (f x)) f xs) (by (list_any (λ y. same (f x) (f y)) xs))
  where
    by : (b : Bool) → map f (cond b xs (xs ++ x ∷ [])) ≡ cond b (map f xs) (map f xs ++ f x ∷ [])
    by true = refl
    by false = map-append f xs (x ∷ [])
