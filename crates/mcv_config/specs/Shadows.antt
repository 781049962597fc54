-- The shadows of a PoolRoute: where requests go too, when their server's index is in a range (mcrouter wiki, Shadowing; `first` at most `last` is own).
use Rattle.std.specs.Prelude.{ℕ, nat_lt, List, Option, Some, None, if◌then◌else◌, codes}
use Rattle.serde_json.specs.Data.{Data, Members}
use Rattle.serde_json.specs.Find.{get, at, as_object}
use Rattle.mcv_names.specs.declared.fault.FaultKind.TheVariants.{WrongKind}
use Rattle.mcv_names.specs.declared.handle.Object.TheVariants as objects
use Rattle.mcv_names.specs.Fault.{Read, good, refused, ◌>>=◌, also}
use Rattle.mcv_names.specs.Handles.{key_fault, keys_read}
use Rattle.mcv_names.specs.Lists.{each, items_or_none, required}
use Rattle.mcv_config.specs.Numbers.{index_read}
use Rattle.mcv_names.specs.Path.{key_step, item_step}
use Rattle.mcv_config.specs.ConfigValue.{Named, Range, ShadowValue}
use Rattle.mcv_config.specs.Walk.{SoFar, Reader, route_under}

-- ---- ranges

abbrev pub ranged : List ℕ → ℕ → ℕ → Read Range
ranged path first last = if nat_lt last first then refused WrongKind path else good (record { first = first; last = last })

-- a list of two numbers
abbrev pub range_of_ends : List ℕ → Option Data → Option Data → Option Data → Read Range
range_of_ends path None b c = refused WrongKind path
range_of_ends path (Some a) None c = refused WrongKind path
range_of_ends path (Some a) (Some b) (Some c) = refused WrongKind path
range_of_ends path (Some a) (Some b) None =
    index_read (item_step path 0) a >>= λ (first : ℕ).
    index_read (item_step path 1) b >>= λ (last : ℕ).
    ranged path first last

unfoldable pub range_value : List ℕ → Data → Read Range
range_value path d = range_of_ends path (at 0 d) (at 1 d) (at 2 d)

unfoldable pub range_read : List ℕ → Data → Read Range
range_read path d = required (get (codes "index_range") d) path >>= range_value (key_step path (codes "index_range"))

-- the two ends
abbrev pub range_of : ℕ × ℕ → Range
range_of ends = record { first = ends.0; last = ends.1 }

-- ---- shadows

unfoldable pub shadow_fields : Reader → SoFar → List ℕ → Data → Read (ShadowValue × SoFar)
shadow_fields reader w path d =
    range_read path d >>= λ (range : Range).
    route_under reader w path (codes "target") d >>= λ (x : Named × SoFar).
    good ((range, x.0), x.1)

abbrev pub shadow_of_members : Reader → SoFar → List ℕ → Data → Option Members → Read (ShadowValue × SoFar)
shadow_of_members reader w path d None = refused WrongKind path
shadow_of_members reader w path d (Some ms) = also (keys_read (key_fault objects.Shadow) path ms) (shadow_fields reader w path d)

unfoldable pub shadow_read : Reader → SoFar → List ℕ → Data → Read (ShadowValue × SoFar)
shadow_read reader w path d = shadow_of_members reader w path d (as_object d)

-- no shadows where there is no such key
abbrev pub shadows_read : Reader → SoFar → List ℕ → Option Data → Read (List ShadowValue × SoFar)
shadows_read reader w path o = items_or_none path o >>= each (shadow_read reader) w path 0
