-- The texts of servers and the numbers of hubs, one after another.
use Rattle.std.proofs.Common.{◌≡◌, ◌∙◌, ℕ, ◌+◌, ◌<◌, None, Some, List, [], ◌∷◌, ◌++◌, length, get_or, map, take, ap, sym, arith}
use Rattle.std.proofs.lemmas.List.{map-append, map-id, take_more}
use Rattle.std.proofs.lemmas.List.Elements.{All-push}
use Rattle.std.proofs.lemmas.List.FromFn.{map-range_with_len_more}
use Rattle.std.specs.List.{range_with_len}
use Rattle.mcv_metrics.specs.declared.snapshot.HubCounts.{HubCounts}
use Rattle.std.proofs.lemmas.Option.{get_or_from_slice_get, slice_get-get_or, slice_get_within}
use Rattle.std.specs.Prelude.{slice_get, string_bytes, vec_len}
use Rattle.mcv_metrics.specs.declared.snapshot.ServerCounts.{ServerCounts}
use Rattle.mcv_tally.specs.Tally.{HaveLevels, listed, tallied}
use Rattle.mcv_tally.specs.declared.tally.HubTally.{HubTally}
use Rattle.mcv_tally.specs.declared.tally.ServerTally.{ServerTally}

-- there is one at each place
pub text_there : (texts : List (List ℕ)) (i : ℕ) → i < length texts → None ≡ slice_get texts i → ⊥
text_there texts i lt none = let some = slice_get-get_or texts i [] lt in cc

-- one server more is counted
pub tallied_more : (texts : List (List ℕ)) (i : ℕ) (text : List ℕ) (tallies : List ServerTally) (t : ServerTally) → slice_get texts i ≡ Some text → string_bytes t.server ≡ text
    → tallied tallies ≡ take i texts → tallied (tallies ++ t ∷ []) ≡ take (i + 1) texts
tallied_more texts i text tallies t there is before =
    map-append (λ (t : ServerTally). string_bytes t.server) tallies (t ∷ []) ∙ (λ j. before j ++ is j ∷ [])
    ∙ sym (take_more texts i text (slice_get_within texts i text there) ∙ ap (λ (x : List ℕ). take i texts ++ x ∷ []) (get_or_from_slice_get texts i text text there))

-- something is said of one server more
pub listed_more : (tallies : List ServerTally) (i : ℕ) (t : ServerTally) (counts : List ServerCounts) (c : ServerCounts) → i < length tallies → t ≡ get_or tallies i t
    → string_bytes c.server ≡ string_bytes t.server → listed counts ≡ tallied (take i tallies) → listed (counts ++ c ∷ []) ≡ tallied (take (i + 1) tallies)
listed_more tallies i t counts c lt is same before =
    map-append (λ (c : ServerCounts). string_bytes c.server) counts (c ∷ []) ∙ (λ j. before j ++ (same ∙ ap (λ (x : ServerTally). string_bytes x.server) is) j ∷ [])
    ∙ sym (ap tallied (take_more tallies i t lt) ∙ map-append (λ (t : ServerTally). string_bytes t.server) (take i tallies) (get_or tallies i t ∷ []))

-- one number more
range_more : (n : ℕ) → range_with_len 0 (n + 1) ≡ range_with_len 0 n ++ n ∷ []
range_more n =
    sym (map-id (range_with_len 0 (n + 1))) ∙ (map-range_with_len_more (λ (k : ℕ). k) 0 n n (omega arith) ∙ ap (λ (xs : List ℕ). xs ++ n ∷ []) (map-id (range_with_len 0 n)))

-- something is said of one hub more
pub numbered_more : (counts : List HubCounts) (c : HubCounts) (n : ℕ) → c.hub ≡ n → map (λ (c : HubCounts). c.hub) counts ≡ range_with_len 0 n → map (λ (c : HubCounts). c.hub) (counts ++ c ∷ []) ≡ range_with_len 0 (n + 1)
numbered_more counts c n is before = map-append (λ (c : HubCounts). c.hub) counts (c ∷ []) ∙ ((λ j. before j ++ is j ∷ []) ∙ sym (range_more n))

-- one hub more has its numbers
pub levels_more : (servers : ℕ) (hubs : List HubTally) (h : HubTally) → vec_len h.waiting ≡ servers → HaveLevels servers hubs → HaveLevels servers (hubs ++ h ∷ [])
levels_more servers hubs h is all = All-push (λ (h : HubTally). vec_len h.waiting ≡ servers) hubs h all is
