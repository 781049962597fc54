-- The words of tallies, one after another.
use Rattle.std.proofs.Common.{◌≡◌, ◌∙◌, ℕ, ◌+◌, ◌<◌, List, [], ◌∷◌, ◌++◌, length, get_or, take, ap, sym}
use Rattle.std.proofs.lemmas.List.{map-append, take_more}
use Rattle.std.specs.Prelude.{map, string_bytes}
use Rattle.mcv_metrics.specs.declared.snapshot.WordCount.{WordCount}
use Rattle.mcv_tally.specs.Words.{counted_words, tallied_words}
use Rattle.mcv_tally.specs.declared.words.WordTally.{WordTally}

-- one word more is counted
pub tallied_more : {W : Type 0} → (spelled : W → List ℕ) (words : List W) (i : ℕ) (w : W) (tallies : List WordTally) (t : WordTally) → i < length words → w ≡ get_or words i w
    → string_bytes t.word ≡ spelled w → tallied_words tallies ≡ map spelled (take i words) → tallied_words (tallies ++ t ∷ []) ≡ map spelled (take (i + 1) words)
tallied_more spelled words i w tallies t lt is same before =
    map-append (λ (t : WordTally). string_bytes t.word) tallies (t ∷ []) ∙ (λ j. before j ++ (same ∙ ap spelled is) j ∷ [])
    ∙ sym (ap (map spelled) (take_more words i w lt) ∙ map-append spelled (take i words) (get_or words i w ∷ []))

-- something is said of one word more
pub counted_more : (tallies : List WordTally) (i : ℕ) (t : WordTally) (counts : List WordCount) (c : WordCount) → i < length tallies → t ≡ get_or tallies i t
    → string_bytes c.word ≡ string_bytes t.word → counted_words counts ≡ tallied_words (take i tallies) → counted_words (counts ++ c ∷ []) ≡ tallied_words (take (i + 1) tallies)
counted_more tallies i t counts c lt is same before =
    map-append (λ (c : WordCount). string_bytes c.word) counts (c ∷ []) ∙ (λ j. before j ++ (same ∙ ap (λ (x : WordTally). string_bytes x.word) is) j ∷ [])
    ∙ sym (ap tallied_words (take_more tallies i t lt) ∙ map-append (λ (t : WordTally). string_bytes t.word) (take i tallies) (get_or tallies i t ∷ []))
