-- The routing prefixes that select a route (mcrouter wiki, Routing Prefix; the shape and the limit are own).
use Rattle.std.specs.Prelude.{ℕ, ◌==◌, ◌&&◌, nat_lt, Bool, true, false, List, [], ◌∷◌, length, Option, Some, None, IsTrue, if◌then◌else◌, codes, bytes_eq}
use Rattle.std.specs.List.{list_all, list_any, slice_split}
use Rattle.serde_json.specs.Data.{Data, Items}
use Rattle.serde_json.specs.Find.{get, as_str, as_array}
use Rattle.mcv_base.specs.Key.{IsRoutingPrefix, is_key_byte, slash}
use Rattle.mcv_base.specs.declared.key.KeyFault.{KeyFault}
use Rattle.mcv_base.specs.declared.key.KeyFault.TheVariants.{Empty, TooLong, BadByte, NoRest}
use Rattle.mcv_pools.specs.Table.{number_in, with_entry}
use Rattle.mcv_names.specs.declared.fault.FaultKind.{FaultKind}
use Rattle.mcv_names.specs.declared.fault.FaultKind.TheVariants.{WrongKind, Limit, AliasTwice, LeftOut}
use Rattle.mcv_names.specs.Fault.{Read, good, refused, ◌>>=◌}
use Rattle.mcv_names.specs.Lists.{each, items_list, required, some_items, text_read}
use Rattle.mcv_names.specs.Path.{key_step}

-- ---- what an alias is

-- what comes before, between and behind the slashes
abbrev pub parts : List ℕ → List (List ℕ)
parts text = slice_split (λ b. b == slash) text

-- nothing, a name, a name, nothing
abbrev pub are_two_names : List (List ℕ) → Bool
are_two_names ([] ∷ (x ∷ xs) ∷ (y ∷ ys) ∷ [] ∷ []) = true
are_two_names _ = false

-- `/x/y/` of key bytes
unfoldable pub is_alias : List ℕ → Bool
is_alias text = are_two_names (parts text) && list_all is_key_byte text

-- The same in the words of key words.
pub record IsAlias (text : List ℕ) : Type 0 where
  pub prefix : IsRoutingPrefix text
  pub bytes : IsTrue (list_all is_key_byte text)

-- of the reasons why a word is no key, the one that a routing prefix has
abbrev pub is_no_rest : KeyFault → Bool
is_no_rest Empty = false
is_no_rest TooLong = false
is_no_rest BadByte = false
is_no_rest NoRest = true

-- ---- reading

-- bytes of an alias (own)
abbrev pub alias_limit : ℕ
alias_limit = 40

-- in a routing prefix a star means any name (mcrouter wiki, Routing Prefix), which is left out; elsewhere it is a byte
abbrev pub star : ℕ
star = 42

abbrev pub twice : Option ℕ → Option FaultKind
twice None = None
twice (Some i) = Some AliasTwice

-- the fault of an alias behind those of the file that come before it, if it has one
unfoldable pub alias_fault : List (List ℕ) → List ℕ → Option FaultKind
alias_fault seen text =
    if nat_lt alias_limit (length text) then Some Limit else
    (if is_alias text then (if list_any (λ b. b == star) text then Some LeftOut else twice (number_in bytes_eq seen text)) else
    Some WrongKind)

abbrev pub unless_fault : Option FaultKind → List ℕ → List ℕ → Read (List ℕ)
unless_fault None path text = good text
unless_fault (Some kind) path text = refused kind path

-- an alias, and those so far with it
unfoldable pub alias_read : List (List ℕ) → List ℕ → Data → Read (List ℕ × List (List ℕ))
alias_read seen path d =
    text_read (as_str d) path >>= λ (text : List ℕ).
    unless_fault (alias_fault seen text) path text >>= λ (alias : List ℕ).
    good (alias, with_entry bytes_eq seen alias)

-- one alias or more
abbrev pub aliases_of_list : List (List ℕ) → List ℕ → Option Items → Read (List (List ℕ) × List (List ℕ))
aliases_of_list seen path None = refused WrongKind path
aliases_of_list seen path (Some ds) = some_items path (items_list ds) >>= each alias_read seen path 0

unfoldable pub aliases_field : List (List ℕ) → List ℕ → Data → Read (List (List ℕ) × List (List ℕ))
aliases_field seen path d =
    required (get (codes "aliases") d) path >>= λ (a : Data).
    aliases_of_list seen (key_step path (codes "aliases")) (as_array a)
