-- What an operation of a JSON patch makes of a value (RFC 6902, sections 4.1 and 4.3), for the operations that are written: `replace`, and the `add` of a member to an object.
use Rattle.std.specs.Prelude.{ℕ, zero, suc, List, [], ◌∷◌, Option, Some, None, option_and_then, option_map}
use Rattle.serde_json.specs.Data.{Data, null, boolean, number, string, array, object, Items, no_items, item, put}
use Rattle.serde_json.specs.Find.{get_item, get_member}

-- a step of a path: to the member of a key, or to the item of a number
pub data Step : Type 0 where
  key : List ℕ → Step
  index : ℕ → Step

-- the items, with this one at a number
abbrev pub with_item : ℕ → Data → Items → Items
with_item n x no_items = no_items
with_item zero x (item d ds) = item x ds
with_item (suc n) x (item d ds) = item d (with_item n x ds)

-- what a function makes of the value behind a step, which has to be there, is in its place
abbrev pub inside : Step → (Data → Option Data) → Data → Option Data
inside (key k) f null = None
inside (key k) f (boolean b) = None
inside (key k) f (number n) = None
inside (key k) f (string s) = None
inside (key k) f (array ds) = None
inside (key k) f (object ms) = option_and_then (λ d. option_map (λ x. object (put k x ms)) (f d)) (get_member k ms)
inside (index i) f null = None
inside (index i) f (boolean b) = None
inside (index i) f (number n) = None
inside (index i) f (string s) = None
inside (index i) f (array ds) = option_and_then (λ d. option_map (λ x. array (with_item i x ds)) (f d)) (get_item i ds)
inside (index i) f (object ms) = None

abbrev pub at_path : List Step → (Data → Option Data) → Data → Option Data
at_path [] f d = f d
at_path (s ∷ path) f d = inside s (at_path path f) d

-- a member is put into an object
abbrev pub with_member : (key : List ℕ) → (value : Data) → Data → Option Data
with_member k v null = None
with_member k v (boolean b) = None
with_member k v (number n) = None
with_member k v (string s) = None
with_member k v (array ds) = None
with_member k v (object ms) = Some (object (put k v ms))

-- the value at the path is replaced; or a member of this key is added to the object at the path
pub data Change : Type 0 where
  replace : (path : List Step) → (value : Data) → Change
  add : (path : List Step) → (key : List ℕ) → (value : Data) → Change

abbrev pub patched : Change → Data → Option Data
patched (replace path v) d = at_path path (λ old. Some v) d
patched (add path k v) d = at_path path (with_member k v) d

-- one change after the other
abbrev pub patched_by : List Change → Data → Option Data
patched_by [] d = Some d
patched_by (c ∷ cs) d = option_and_then (patched_by cs) (patched c d)
