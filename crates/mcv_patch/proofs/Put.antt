-- Where an object or a list is another one with one value put into it.
use Rattle.std.proofs.Common.{◌≡◌, ◌≤◌, ◌-◌, ℕ, zero, suc, List, true, Some, arith, ap, is_some, map, length, refl, set, subst, sym, ◌∙◌, [], ◌∷◌}
use Rattle.std.proofs.lemmas.List.{length-map, map-set}
use Rattle.serde_json.specs.Data.{Data, Items, Members, array, boolean, depth, item, items_depth, members_depth, null, number, object, put, string}
use Rattle.serde_json.specs.Find.{as_object, at, get, get_item, get_member}
use Rattle.serde_json.specs.View.{items_of, items_view, view}
use Rattle.serde_json.specs.declared.value.Value.{Value}
use Rattle.mcv_patch.specs.Child.{DiffersBehind}
use Rattle.mcv_patch.specs.Patch.{index, key, with_item}
use Rattle.mcv_patch.proofs.Depth.{item_within, member_within, put_within, with_item_within}

pub object_of : (d : Data) → is_some (as_object d) ≡ true → (ms : Members) × (d ≡ object ms)
object_of null is = absurd (cc)
object_of (boolean b) is = absurd (cc)
object_of (number n) is = absurd (cc)
object_of (string s) is = absurd (cc)
object_of (array ds) is = absurd (cc)
object_of (object ms) is = (ms, refl)

pub array_of : (n : ℕ) (d e : Data) → at n d ≡ Some e → (ds : Items) × (d ≡ array ds)
array_of n null e is = absurd (cc)
array_of n (boolean b) e is = absurd (cc)
array_of n (number m) e is = absurd (cc)
array_of n (string s) e is = absurd (cc)
array_of n (array ds) e is = (ds, refl)
array_of n (object ms) e is = absurd (cc)

pub got_within : (k : List ℕ) (d e : Data) (m : ℕ) → get k d ≡ Some e → depth d ≤ m → depth e ≤ m
got_within k null e m is within = absurd (cc)
got_within k (boolean b) e m is within = absurd (cc)
got_within k (number n) e m is within = absurd (cc)
got_within k (string s) e m is within = absurd (cc)
got_within k (array ds) e m is within = absurd (cc)
got_within k (object ms) e m is within = member_within k ms e m is (omega arith)

pub at_within : (n : ℕ) (d e : Data) (m : ℕ) → at n d ≡ Some e → depth d ≤ m → depth e ≤ m
at_within n null e m is within = absurd (cc)
at_within n (boolean b) e m is within = absurd (cc)
at_within n (number l) e m is within = absurd (cc)
at_within n (string s) e m is within = absurd (cc)
at_within n (array ds) e m is within = item_within n ds e m is (omega arith)
at_within n (object ms) e m is within = absurd (cc)

-- an object with a value at a key nests no deeper than another that has the value
put_shallow : (k : List ℕ) (after : Data) (ms : Members) (m : ℕ) → depth after ≤ m → suc (members_depth ms) ≤ suc m → depth (object (put k after ms)) ≤ suc m
put_shallow k after ms m deep within = let more : members_depth (put k after ms) ≤ m = put_within k after ms m deep (omega arith) in omega arith

member_deep : (k : List ℕ) (d e : Data) (m : ℕ) → get k d ≡ Some e → depth d ≤ suc m → depth e ≤ m
member_deep k null e m is within = absurd (cc)
member_deep k (boolean b) e m is within = absurd (cc)
member_deep k (number n) e m is within = absurd (cc)
member_deep k (string s) e m is within = absurd (cc)
member_deep k (array ds) e m is within = absurd (cc)
member_deep k (object ms) e m is within = member_within k ms e m is (omega arith)

pub became_put : (k : List ℕ) (old new after changed : Data) (m : ℕ) (ms : Members) → old ≡ object ms → depth old ≤ suc m → depth new ≤ suc m → get k new ≡ Some after
    → changed ≡ object (put k after ms) → (depth changed ≤ suc m → depth new ≤ suc m → changed ≡ new) → new ≡ object (put k after ms)
became_put k old new after changed m ms is deep deep_new has made same =
    let shallow : suc (members_depth ms) ≤ suc m = subst (λ (d : Data). depth d ≤ suc m) is deep in
    let within : depth changed ≤ suc m = rw made (put_shallow k after ms m (member_deep k new after m has deep_new) shallow) in
    sym (same within deep_new) ∙ made

item_deep : (n : ℕ) (d e : Data) (m : ℕ) → at n d ≡ Some e → depth d ≤ suc m → depth e ≤ m
item_deep n null e m is within = absurd (cc)
item_deep n (boolean b) e m is within = absurd (cc)
item_deep n (number l) e m is within = absurd (cc)
item_deep n (string s) e m is within = absurd (cc)
item_deep n (array ds) e m is within = item_within n ds e m is (omega arith)
item_deep n (object ms) e m is within = absurd (cc)

items_shallow : (n : ℕ) (after : Data) (ds : Items) (m : ℕ) → depth after ≤ m → suc (items_depth ds) ≤ suc m → depth (array (with_item n after ds)) ≤ suc m
items_shallow n after ds m deep within = let more : items_depth (with_item n after ds) ≤ m = with_item_within n after ds m deep (omega arith) in omega arith

pub became_with_item : (n : ℕ) (old new after changed : Data) (m : ℕ) (ds : Items) → old ≡ array ds → depth old ≤ suc m → depth new ≤ suc m → at n new ≡ Some after
    → changed ≡ array (with_item n after ds) → (depth changed ≤ suc m → depth new ≤ suc m → changed ≡ new) → new ≡ array (with_item n after ds)
became_with_item n old new after changed m ds is deep deep_new has made same =
    let shallow : suc (items_depth ds) ≤ suc m = subst (λ (d : Data). depth d ≤ suc m) is deep in
    let within : depth changed ≤ suc m = rw made (items_shallow n after ds m (item_deep n new after m has deep_new) shallow) in
    sym (same within deep_new) ∙ made

unset : (n : ℕ) (x : Data) (ds : List Data) → length ds ≤ n → with_item n x (items_of ds) ≡ items_of ds
unset n x [] past = refl
unset zero x (d ∷ ds) past = absurd (omega arith)
unset (suc n) x (d ∷ ds) past = ap (item d) (unset n x ds (omega arith))

-- past the end nothing is put
pub items_view_unset : (n : ℕ) (v : Value) (vs : List Value) → length vs ≤ n → items_view vs ≡ with_item n (view v) (items_view vs)
items_view_unset n v vs past = sym (unset n (view v) (map view vs) (omega (arith, length-map vs view)))

items_set : (n : ℕ) (x : Data) (ds : List Data) → items_of (set ds n x) ≡ with_item n x (items_of ds)
items_set n x [] = refl
items_set zero x (d ∷ ds) = refl
items_set (suc n) x (d ∷ ds) = ap (item d) (items_set n x ds)

pub items_view_set : (n : ℕ) (v : Value) (vs : List Value) → items_view (set vs n v) ≡ with_item n (view v) (items_view vs)
items_view_set n v vs = ap items_of (map-set view vs n v) ∙ items_set n (view v) (map view vs)

-- an object with a value at a key beside what it was
pub behind_member : (k : List ℕ) (old new before after : Data) (m : ℕ) → is_some (as_object old) ≡ true → depth old ≤ m → depth new ≤ m → get k old ≡ Some before → get k new ≡ Some after
    → ((ms : Members) → old ≡ object ms → new ≡ object (put k after ms)) → DiffersBehind (key k) old new before after × ((depth before ≤ m) × (depth after ≤ m))
behind_member k old new before after m an_object deep deep_new had has put_there =
    let found = object_of old an_object in
    let there : get_member k found.0 ≡ Some before = rw found.1 at had in
    ((found.0, found.1, there, put_there found.0 found.1), (got_within k old before m had deep, got_within k new after m has deep_new))

pub added_member : (k : List ℕ) (old new after : Data) → is_some (as_object old) ≡ true → ((ms : Members) → old ≡ object ms → new ≡ object (put k after ms))
    → (ms : Members) × (old ≡ object ms) × (new ≡ object (put k after ms))
added_member k old new after an_object put_there = let found = object_of old an_object in (found.0, found.1, put_there found.0 found.1)

-- the same of a list with a value at a number
pub behind_item : (n : ℕ) (old new before after : Data) (m : ℕ) → depth old ≤ m → depth new ≤ m → at n old ≡ Some before → at n new ≡ Some after
    → ((ds : Items) → old ≡ array ds → new ≡ array (with_item n after ds)) → DiffersBehind (index n) old new before after × ((depth before ≤ m) × (depth after ≤ m))
behind_item n old new before after m deep deep_new had has put_there =
    let found = array_of n old before had in
    let there : get_item n found.0 ≡ Some before = rw found.1 at had in
    ((found.0, found.1, there, put_there found.0 found.1), (at_within n old before m had deep, at_within n new after m has deep_new))
