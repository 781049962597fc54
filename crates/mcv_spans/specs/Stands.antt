-- A value stands in a text where its spans say (own).
use Rattle.std.specs.Prelude.{◌≡◌, ◌≤◌, ◌<◌, ⊤, ℕ, ◌-◌, List, Option, Some, None, drop, length, slice_index, take}
use Rattle.serde_json.specs.Data.{Data, array as json_array, boolean, null, number, object as json_object, string}
use Rattle.serde_json.specs.Read.{read}
use Rattle.mcv_spans.specs.Place.{Items, Members, Place, array, item, member, no_items, no_members, object, other, span_of, text}
use Rattle.mcv_spans.specs.declared.value.Span.{Span}

abbrev pub bytes_at : List ℕ → Span → List ℕ
bytes_at bytes span = take (span.end - span.start) (drop span.start bytes)

-- the span has some bytes, and lies between two places
abbrev pub IsWithin : (from to : ℕ) → Span → Type 0
IsWithin from to span = (from ≤ span.start) × (span.start < span.end) × (span.end ≤ to)

abbrev pub IsBetween : (first last : ℕ) → List ℕ → Type 0
IsBetween first last bytes = (1 < length bytes) × (slice_index bytes 0 ≡ first) × (slice_index bytes (length bytes - 1) ≡ last)

-- null, a boolean or a number was read
abbrev pub IsWord : Option Data → Type 0
IsWord None = ⊥
IsWord (Some null) = ⊤
IsWord (Some (boolean b)) = ⊤
IsWord (Some (number n)) = ⊤
IsWord (Some (string s)) = ⊥
IsWord (Some (json_array ds)) = ⊥
IsWord (Some (json_object ms)) = ⊥

-- each value lies between the two places, an object between braces and a list between brackets; the bytes of a text are JSON that
-- reads as it, and those of any other value as a number, a boolean or null; what is in an object or a list lies in it, the items of
-- a list one behind the other
abbrev mutual
  pub StandsIn : (bytes : List ℕ) → (from to : ℕ) → Place → Type 0
  StandsIn bytes from to (object span ms) = IsWithin from to span × IsBetween 123 125 (bytes_at bytes span) × MembersStand bytes span.start span.end ms
  StandsIn bytes from to (array span ps) = IsWithin from to span × IsBetween 91 93 (bytes_at bytes span) × ItemsStand bytes span.start span.end ps
  StandsIn bytes from to (text span body) = IsWithin from to span × (read (bytes_at bytes span) ≡ Some (string body))
  StandsIn bytes from to (other span) = IsWithin from to span × IsWord (read (bytes_at bytes span))

  pub MembersStand : (bytes : List ℕ) → (from to : ℕ) → Members → Type 0
  MembersStand bytes from to no_members = ⊤
  MembersStand bytes from to (member _ p ms) = StandsIn bytes from to p × MembersStand bytes from to ms

  pub ItemsStand : (bytes : List ℕ) → (from to : ℕ) → Items → Type 0
  ItemsStand bytes from to no_items = ⊤
  ItemsStand bytes from to (item p ps) = StandsIn bytes from to p × ItemsStand bytes (span_of p).end to ps
