-- Classes of rests: those that the selectors of a route can't distinguish (own).
use Rattle.std.specs.Prelude.{◌≡◌, ℕ, ◌<◌, ◌≤◌, true, false, List, [], ◌∷◌, Option, Some, None, IsSome, length}
use Rattle.std.specs.List.{All, AllPairs, Contains}
use Rattle.std.specs.Cmp.Lexicographic.{slice_cmp}
use Rattle.std.specs.Ordering.{is_gt, nat_cmp}
use Rattle.std.specs.declared.cmp.Ordering.TheVariants.{Less}
use Rattle.mcv_base.specs.Key.{begins_with, is_key_byte, is_key_word}

-- the word is the longest of the words with which the rest begins
pub record IsClassWord (words : List (List ℕ)) (rest word : List ℕ) : Type 0 where
  pub listed : Contains words word
  pub begins : begins_with rest word ≡ true
  pub longest : (v : List ℕ) → Contains words v → begins_with rest v ≡ true → length v ≤ length word

-- a class: its word, and a rest in it if there is one
pub record ClassValue : Type 0 where
  pub word : List ℕ
  pub member : Option (List ℕ)

-- a key byte that is no class word by itself
pub record IsFree (words : List (List ℕ)) (byte : ℕ) : Type 0 where
  pub small : byte < 256
  pub key : is_key_byte byte ≡ true
  pub unlisted : Contains words (byte ∷ []) → ⊥

-- the member of a word's class: the word itself where it is a key word; of the empty word the least key byte that is no class word
abbrev pub IsMember : List (List ℕ) → List ℕ → Option (List ℕ) → Type 0
IsMember words [] None = (b : ℕ) → IsFree words b → ⊥
IsMember words [] (Some m) = (b : ℕ) × (m ≡ b ∷ []) × IsFree words b × ((c : ℕ) → IsFree words c → b ≤ c)
IsMember words (b ∷ word) None = is_key_word (b ∷ word) ≡ false
IsMember words (b ∷ word) (Some m) = (m ≡ b ∷ word) × (is_key_word (b ∷ word) ≡ true)

-- the class of a rest
pub record IsClassOf (words : List (List ℕ)) (rest : List ℕ) (class : ClassValue) : Type 0 where
  pub word : IsClassWord words rest class.word
  pub member : IsMember words class.word class.member

-- v comes before w in byte order
abbrev pub IsBefore : List ℕ → List ℕ → Type 0
IsBefore v w = slice_cmp nat_cmp v w ≡ Less

-- v comes before w, or is w
abbrev pub IsUpTo : List ℕ → List ℕ → Type 0
IsUpTo v w = is_gt (slice_cmp nat_cmp v w) ≡ false

-- a class of these words, and it has a member
pub record IsListed (words : List (List ℕ)) (class : ClassValue) : Type 0 where
  pub word : Contains words class.word
  pub member : IsMember words class.word class.member
  pub some : IsSome class.member

-- all classes that have members, in the byte order of their words, each once
pub record IsClassList (words : List (List ℕ)) (classes : List ClassValue) : Type 0 where
  pub rising : AllPairs (λ a b. IsBefore a.word b.word) classes
  pub only : All (IsListed words) classes
  pub all : (class : ClassValue) → IsListed words class → Contains classes class
