-- The texts of servers, one after another.
use Rattle.std.proofs.Common.{◌≡◌, ◌∙◌, ℕ, ◌+◌, ◌<◌, None, Some, List, [], ◌∷◌, ◌++◌, length, map, take, ap, sym}
use Rattle.std.proofs.lemmas.List.{map-append, take_more}
use Rattle.std.proofs.lemmas.Option.{get_or_from_slice_get, slice_get-get_or, slice_get_within}
use Rattle.std.specs.Prelude.{slice_get, string_bytes}
use Rattle.std.specs.declared.alloc.Global.{Global}
use Rattle.std.specs.declared.string.String.{String}

-- there is one at each place
pub text_there : (texts : List (List ℕ)) (i : ℕ) → i < length texts → None ≡ slice_get texts i → ⊥
text_there texts i lt none = let some = slice_get-get_or texts i [] lt in cc

-- one more is there
pub texts_more : (servers : List (List ℕ)) (i : ℕ) (text : List ℕ) (texts : List (String Global)) (t : String Global) → slice_get servers i ≡ Some text → string_bytes t ≡ text
    → map string_bytes texts ≡ take i servers → map string_bytes (texts ++ t ∷ []) ≡ take (i + 1) servers
texts_more servers i text texts t there is before =
    map-append string_bytes texts (t ∷ []) ∙ (λ j. before j ++ is j ∷ [])
    ∙ sym (take_more servers i text (slice_get_within servers i text there) ∙ ap (λ (x : List ℕ). take i servers ++ x ∷ []) (get_or_from_slice_get servers i text text there))
