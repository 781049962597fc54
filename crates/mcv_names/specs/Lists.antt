-- Reading what is in a list or an object, each in turn. A state goes from one to the next: the room that is left,
-- or the table of servers.
use Rattle.std.specs.Prelude.{ℕ, ◌+◌, List, [], ◌∷◌, Option, Some, None}
use Rattle.serde_json.specs.Data.{Data, Items, no_items, item, Members, no_members, member}
use Rattle.serde_json.specs.Find.{as_array}
use Rattle.mcv_names.specs.declared.fault.FaultKind.TheVariants.{WrongKind, Empty}
use Rattle.mcv_names.specs.Fault.{Read, good, refused, ◌>>=◌}
use Rattle.mcv_names.specs.Path.{key_step, item_step}

abbrev pub items_list : Items → List Data
items_list no_items = []
items_list (item d ds) = d ∷ items_list ds

abbrev pub member_names : Members → List (List ℕ)
member_names no_members = []
member_names (member name d ms) = name ∷ member_names ms

-- each value of a list, from number i on
unfoldable pub each : {A S : Type 0} → (S → List ℕ → Data → Read (A × S)) → S → List ℕ → ℕ → List Data → Read (List A × S)
each reader state path i [] = good ([], state)
each {A} {S} reader state path i (d ∷ ds) =
    reader state (item_step path i) d >>= λ (x : A × S).
    each reader x.1 path (i + 1) ds >>= λ (xs : List A × S).
    good (x.0 ∷ xs.0, xs.1)

-- each member of an object, in byte order of the names
unfoldable pub each_member : {A S : Type 0} → (S → List ℕ → List ℕ → Data → Read (A × S)) → S → List ℕ → Members → Read (List A × S)
each_member reader state path no_members = good ([], state)
each_member {A} {S} reader state path (member name d ms) =
    reader state (key_step path name) name d >>= λ (x : A × S).
    each_member reader x.1 path ms >>= λ (xs : List A × S).
    good (x.0 ∷ xs.0, xs.1)

-- the value of a key that has to be there
abbrev pub required : Option Data → List ℕ → Read Data
required None path = refused WrongKind path
required (Some d) path = good d

-- the text of a value that has to be one
abbrev pub text_read : Option (List ℕ) → List ℕ → Read (List ℕ)
text_read None path = refused WrongKind path
text_read (Some text) path = good text

-- the items of a value that has to be a list
abbrev pub items_found : List ℕ → Option Items → Read (List Data)
items_found path None = refused WrongKind path
items_found path (Some ds) = good (items_list ds)

-- no items where there is no such key
abbrev pub items_or_none : List ℕ → Option Data → Read (List Data)
items_or_none path None = good []
items_or_none path (Some d) = items_found path (as_array d)

-- a list that has to have an item
unfoldable pub some_items : List ℕ → List Data → Read (List Data)
some_items path [] = refused Empty path
some_items path (d ∷ ds) = good (d ∷ ds)
