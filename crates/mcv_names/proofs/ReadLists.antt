-- Reading each item of a list, or each member of an object, in turn: what was read goes in front of what is still to read.
use Rattle.std.proofs.Common.{◌≡◌, ℕ, ◌+◌, ◌<◌, List, [], ◌∷◌, ◌++◌, map, length, get_or, drop, string_bytes, refl, sym, ap, ◌∙◌, append_assoc}
use Rattle.std.proofs.lemmas.List.{drop_more}
use Rattle.serde_json.proofs.Views.{Entry}
use Rattle.serde_json.specs.Data.{Data}
use Rattle.serde_json.specs.View.{view, members_view}
use Rattle.mcv_names.specs.Fault.{Read, good, bad, ◌>>=◌}
use Rattle.mcv_names.specs.Lists.{each, each_member}
use Rattle.mcv_names.specs.Path.{item_step, key_step}

abbrev pub onto : {A S : Type 0} → List A → List A × S → List A × S
onto front x = (front ++ x.0, x.1)

-- what was read, behind those read before
abbrev pub after : {A S : Type 0} → List A → Read (List A × S) → Read (List A × S)
after {A} {S} front read = read >>= λ (x : List A × S). good (onto front x)

after-more : {A S : Type 0} (front : List A) (t : A) (rest : Read (List A × S))
    → after front (rest >>= λ (xs : List A × S). good (t ∷ xs.0, xs.1)) ≡ after (front ++ t ∷ []) rest
after-more front t (good xs) = ap (λ ts. good (ts, xs.1)) (sym (append_assoc front (t ∷ []) xs.0))
after-more front t (bad faults) = refl

pub each_member-more : {A S : Type 0} (reader : S → List ℕ → List ℕ → Data → Read (A × S)) (state : S) (path : List ℕ) (e : Entry) (es all : List Entry) (front : List A) (t : A) (left : S)
    → all ≡ e ∷ es
    → reader state (key_step path (string_bytes e.0)) (string_bytes e.0) (view e.1) ≡ good (t, left)
    → after front (each_member reader state path (members_view all)) ≡ after (front ++ t ∷ []) (each_member reader left path (members_view es))
unfolding each_member
each_member-more reader state path e es all front t left is read = rw (is, read) (after-more front t (each_member reader left path (members_view es)))

-- one item of a list that goes by its number, as a loop over the list with its numbers has it
pub each-more : {A B S : Type 0} (reader : S → List ℕ → Data → Read (A × S)) (seen_as : B → Data) (state : S) (path : List ℕ) (list : List B) (i : ℕ) (item : B) (front longer : List A) (t : A) (left : S)
    → i < length list → item ≡ get_or list i item → longer ≡ front ++ t ∷ []
    → reader state (item_step path i) (seen_as item) ≡ good (t, left)
    → after front (each reader state path i (map seen_as (drop i list))) ≡ after longer (each reader left path (i + 1) (map seen_as (drop (i + 1) list)))
unfolding each
each-more {A} {B} {S} reader seen_as state path list i item front longer t left low is pushed read =
    let rest : List B = drop (i + 1) list in
    let here : drop i list ≡ item ∷ rest = drop_more list i item low ∙ ap (λ x. x ∷ rest) (sym is) in
    ap (λ items. after front (each reader state path i (map seen_as items))) here
    ∙ rw read (after-more front t (each reader left path (i + 1) (map seen_as rest)))
    ∙ ap (λ items. after items (each reader left path (i + 1) (map seen_as rest))) (sym pushed)
