-- The class words of a route as they are kept to be searched (own).
use Rattle.std.specs.Prelude.{◌≡◌, ℕ, ◌<◌, ◌-◌, true, List, [], ◌∷◌, Some, ⊤, length, map, slice_get, slice_index_or}
use Rattle.std.specs.List.{All, AllPairs, Contains}
use Rattle.std.specs.declared.alloc.Global.{Global}
use Rattle.std.specs.declared.vec.Vec.{Vec}
use Rattle.mcv_base.specs.Key.{begins_with}
use Rattle.mcv_classes.specs.Class.{IsBefore, IsUpTo}
use Rattle.mcv_classes.specs.declared.table.LinkedWord.{LinkedWord}

-- the bytes of words
abbrev pub bytes_of : List (Vec ℕ Global) → List (List ℕ)
bytes_of words = map (λ w. w.items) words

-- those of linked words
abbrev pub texts_of : List LinkedWord → List (List ℕ)
texts_of words = map (λ w. w.text.items) words

abbrev pub word_at : List (List ℕ) → ℕ → List ℕ
word_at words k = slice_index_or words k []

-- a list of words holds these words in byte order, each once
pub record IsWordTable (words table : List (List ℕ)) : Type 0 where
  pub rising : AllPairs IsBefore table
  pub all : All (Contains table) words
  pub only : All (Contains words) table

-- each word comes after the one before it in byte order, or is the same, from the word v on
abbrev pub IsInOrderFrom : List ℕ → List (List ℕ) → Type 0
IsInOrderFrom v [] = ⊤
IsInOrderFrom v (w ∷ words) = IsUpTo v w × IsInOrderFrom w words

-- the last word of a table
abbrev pub last_of : List (List ℕ) → List ℕ
last_of table = word_at table (length table - 1)

-- all words before place i with which word i begins are such that word j begins with them
pub record IsLink (words : List (List ℕ)) (i j : ℕ) : Type 0 where
  pub down : j < i
  pub kept : (k : ℕ) → k < i → begins_with (word_at words i) (word_at words k) ≡ true → begins_with (word_at words j) (word_at words k) ≡ true

-- the words rise from the empty one, and each is linked with the longest shorter one with which it begins
pub record IsLinked (words : List LinkedWord) : Type 0 where
  pub first : slice_get (texts_of words) 0 ≡ Some []
  pub rising : AllPairs IsBefore (texts_of words)
  pub links : (i : ℕ) (d : LinkedWord) → 0 < i → i < length words → IsLink (texts_of words) i (slice_index_or words i d).shorter
