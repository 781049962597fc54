-- Key words: the routing prefix, the rest and the hashed part are cuts of one list of bytes.
use Rattle.std.specs.Prelude.{◌≡◌, ◌≢◌, ◌<◌, ◌≤◌, ℕ, ◌+◌, Bool, true, false, ◌&&◌, not, All, nat_le, nat_lt, ◌==◌, List, [], ◌∷◌, ◌++◌, length, drop, codes, if◌then◌else◌}
use Rattle.std.specs.List.{list_all}
use Rattle.mcv_base.specs.declared.key.KeyFault.{KeyFault}
use Rattle.mcv_base.specs.declared.key.KeyFault.TheVariants.{Empty, TooLong, BadByte, NoRest}

-- a byte of a key word: 33 to 126, or 128 to 255 (protocol.txt: no control characters and no white space)
abbrev pub is_key_byte : ℕ → Bool
is_key_byte b = nat_le 33 b && not (b == 127)

-- 1 to 250 such bytes (protocol.txt)
abbrev pub is_key_word : List ℕ → Bool
is_key_word word = nat_lt 0 (length word) && (nat_le (length word) 250 && list_all is_key_byte word)

-- a rest: 1 to 250 key bytes
pub record IsRest (rest : List ℕ) : Type 0 where
  pub key : is_key_word rest ≡ true
  pub bytes : All (λ b. b < 256) rest

-- the byte is not in the list
abbrev pub lacks : ℕ → List ℕ → Bool
lacks c bytes = list_all (λ b. not (b == c)) bytes

abbrev pub slash : ℕ
slash = 47

-- what is between two slashes of a routing prefix
pub record IsName (name : List ℕ) : Type 0 where
  pub some : name ≢ []
  pub no_slash : lacks slash name ≡ true

-- `/x/y/`: three slashes with a name between neighbours (mcrouter wiki, Routing Prefix; the shape is own)
pub record IsRoutingPrefix (prefix : List ℕ) : Type 0 where
  pub first : List ℕ
  pub second : List ℕ
  pub first_is : IsName first
  pub second_is : IsName second
  pub is : prefix ≡ slash ∷ first ++ slash ∷ second ++ slash ∷ []

-- the prefix of key words that have none (own)
abbrev pub default_prefix : List ℕ
default_prefix = codes "/././"

-- the word begins with no routing prefix
abbrev pub IsUnrouted : List ℕ → Type 0
IsUnrouted word = (prefix rest : List ℕ) → IsRoutingPrefix prefix → word ≢ prefix ++ rest

-- the word is its routing prefix and then its rest; one without a routing prefix is its own rest, and belongs to the default prefix
pub data IsCut (word prefix rest : List ℕ) : Type 0 where
  routed : IsRoutingPrefix prefix → word ≡ prefix ++ rest → IsCut word prefix rest
  unrouted : IsUnrouted word → prefix ≡ default_prefix → rest ≡ word → IsCut word prefix rest

-- the word is no key, for this reason
abbrev pub IsKeyFault : List ℕ → KeyFault → Type 0
IsKeyFault word Empty = word ≡ []
IsKeyFault word TooLong = 250 < length word
IsKeyFault word BadByte = (word ≢ []) × (length word ≤ 250) × (list_all is_key_byte word ≡ false)
IsKeyFault word NoRest = (is_key_word word ≡ true) × IsRoutingPrefix word

abbrev pub key_fault_number : KeyFault → ℕ
key_fault_number Empty = 1
key_fault_number TooLong = 2
key_fault_number BadByte = 3
key_fault_number NoRest = 4

-- `|#|` (mcrouter wiki: only what comes before it is hashed)
abbrev pub separator : List ℕ
separator = codes "|#|"

-- the word begins with this prefix
abbrev pub begins_with : List ℕ → List ℕ → Bool
begins_with word [] = true
begins_with [] (p ∷ prefix) = false
begins_with (w ∷ word) (p ∷ prefix) = (w == p) && begins_with word prefix

-- what comes before the first `|#|`, or all where there is none
abbrev pub hashed_part : List ℕ → List ℕ
hashed_part [] = []
hashed_part (b ∷ bytes) = if begins_with (b ∷ bytes) separator then [] else b ∷ hashed_part bytes

-- no `|#|` is in the bytes
abbrev pub IsUnseparated : List ℕ → Type 0
IsUnseparated bytes = (front behind : List ℕ) → bytes ≢ front ++ separator ++ behind

-- the part is all of the rest, where no `|#|` is in it; else the rest is the part, `|#|` and what is behind, and no `|#|` is at an earlier place (own)
pub data IsHashedCut (rest part : List ℕ) : Type 0 where
  whole : IsUnseparated rest → part ≡ rest → IsHashedCut rest part
  parted : (behind : List ℕ) → rest ≡ part ++ separator ++ behind → ((front more : List ℕ) → rest ≡ front ++ separator ++ more → length part ≤ length front) → IsHashedCut rest part

-- the bytes begin with a name and a slash, n bytes in all
pub record IsNamed (bytes : List ℕ) (n : ℕ) : Type 0 where
  pub name : List ℕ
  pub name_is : IsName name
  pub is : bytes ≡ name ++ slash ∷ drop n bytes
  pub len : n ≡ length name + 1

abbrev pub IsUnnamed : List ℕ → Type 0
IsUnnamed bytes = (name more : List ℕ) → IsName name → bytes ≢ name ++ slash ∷ more
