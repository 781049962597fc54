-- Every configuration that a value names keeps to the limits.
use Rattle.std.proofs.Common.{◌≡◌, ℕ, ◌+◌, ◌≤◌, List, [], ◌∷◌, Option, Some, None, codes, refl, ap, sym, subst, ◌∙◌, arith}
use Rattle.std.specs.List.{sum_by}
use Rattle.std.proofs.lemmas.List.Sums.{sum_by-cons}
use Rattle.serde_json.specs.Data.{Data, Items, Members}
use Rattle.serde_json.specs.Find.{get, as_array, as_object}
use Rattle.mcv_names.specs.declared.handle.Object.TheVariants as objects
use Rattle.mcv_names.specs.Fault.{good}
use Rattle.mcv_names.specs.Handles.{key_fault, keys_read}
use Rattle.mcv_names.specs.Lists.{each, items_list, some_items}
use Rattle.mcv_names.specs.Path.{key_step, item_step}
use Rattle.mcv_names.proofs.ReadFacts.{Holds, holds_bind, holds_then, holds_also}
use Rattle.mcv_config.specs.Aliases.{aliases_field}
use Rattle.mcv_config.specs.Config.{at_first, node_limit, config_of_members, config_read, config_with, root}
use Rattle.mcv_config.specs.Entries.{Turn, depth_limit, entries_of_list, entries_read, entry_fields, entry_of_members, entry_read, routing, routing_read}
use Rattle.mcv_config.specs.Limits.{handles_in, IsWithin, IsWithinLimits}
use Rattle.mcv_config.specs.ConfigValue.{EntryValue, ConfigValue}
use Rattle.mcv_config.specs.Pools.{pools_read}
use Rattle.mcv_config.specs.Routes.{route}
use Rattle.mcv_config.specs.Walk.{SoFar, route_under}
use Rattle.mcv_config.proofs.HandleRoom.{Each, Fits, IsSmall, IsSmallPool, counts, more_fit, none_fit}
use Rattle.mcv_config.proofs.LimitsOfPools.{HasSmall, pools_small}
use Rattle.mcv_config.proofs.LimitsOfRoutes.{route_fits, under_fits}
use Rattle.mcv_config.proofs.SoundPools.{all_of}

-- ---- a route with its aliases

abbrev IsEntry : EntryValue → Type 0
IsEntry e = IsWithin depth_limit e.route

abbrev entry_count : EntryValue → ℕ
entry_count e = handles_in e.route

-- nothing is said of the aliases that go along
abbrev IsNext : ℕ → EntryValue × Turn → Type 0
IsNext room x = Fits IsEntry entry_count room (x.0, x.1.1)

fields_fit : (turn : Turn) (path : List ℕ) (d : Data) → IsSmall turn.1 → Holds (IsNext turn.1.room) (entry_fields turn path d)
unfolding entry_fields
fields_fit turn path d s =
    holds_then (IsNext turn.1.room) (aliases_field turn.0 path d) _
    (λ a. holds_bind (Fits (IsWithin depth_limit) handles_in turn.1.room) (IsNext turn.1.room) (route_under (route depth_limit) turn.1 path (codes "route") d) _
    (under_fits depth_limit (route depth_limit) (route_fits depth_limit) turn.1 path (codes "route") d s)
    (λ x h. record { holds = h.holds; room_left = h.room_left; small = h.small }))

of_members_fit : (turn : Turn) (path : List ℕ) (d : Data) (o : Option Members) → IsSmall turn.1 → Holds (IsNext turn.1.room) (entry_of_members turn path d o)
of_members_fit turn path d None s = tt
of_members_fit turn path d (Some ms) s = holds_also (IsNext turn.1.room) (keys_read (key_fault objects.Entry) path ms) (entry_fields turn path d) (fields_fit turn path d s)

entry_fits : (turn : Turn) (path : List ℕ) (d : Data) → IsSmall turn.1 → Holds (IsNext turn.1.room) (entry_read turn path d)
unfolding entry_read
entry_fits turn path d s = of_members_fit turn path d (as_object d) s

-- ---- routes in turn

abbrev AreEntries : ℕ → List EntryValue × SoFar → Type 0
AreEntries room = Fits (Each IsEntry entry_count) (counts entry_count) room

abbrev AreNext : ℕ → List EntryValue × Turn → Type 0
AreNext room x = AreEntries room (x.0, x.1.1)

each_fits_in_turn : (turn : Turn) (path : List ℕ) (i : ℕ) (ds : List Data) → IsSmall turn.1 → Holds (AreNext turn.1.room) (each entry_read turn path i ds)
unfolding each
each_fits_in_turn turn path i [] s = none_fit IsEntry entry_count turn.1 s
each_fits_in_turn turn path i (d ∷ ds) s =
    holds_bind (IsNext turn.1.room) (AreNext turn.1.room) (entry_read turn (item_step path i) d) _ (entry_fits turn (item_step path i) d s)
    (λ x h. holds_bind (AreNext x.1.1.room) (AreNext turn.1.room) (each entry_read x.1 path (i + 1) ds) _ (each_fits_in_turn x.1 path (i + 1) ds h.small)
    (λ xs k. more_fit IsEntry entry_count turn.1.room (x.0, x.1.1) (xs.0, xs.1.1) h k))

of_list_fits : (w : SoFar) (path : List ℕ) (o : Option Items) → IsSmall w → Holds (AreNext w.room) (entries_of_list w path o)
of_list_fits w path None s = tt
of_list_fits w path (Some ds) s = holds_then (AreNext w.room) (some_items path (items_list ds)) _ (λ items. each_fits_in_turn ([], w) path 0 items s)

entries_fit : (w : SoFar) (path : List ℕ) (d : Data) → IsSmall w → Holds (AreEntries w.room) (entries_read w path d)
unfolding entries_read
entries_fit w path d s = holds_bind (AreNext w.room) (AreEntries w.room) (entries_of_list w path (as_array d)) _ (of_list_fits w path (as_array d) s) (λ x h. h)

by_keys_fit : (w : SoFar) (path : List ℕ) (r rs : Option Data) → IsSmall w → Holds (AreEntries w.room) (routing w path r rs)
by_keys_fit w path None None s = tt
by_keys_fit w path (Some r) None s =
    holds_bind (Fits (IsWithin depth_limit) handles_in w.room) (AreEntries w.room) (route depth_limit w (key_step path (codes "route")) r) _
    (route_fits depth_limit w (key_step path (codes "route")) r s)
    (λ t h. record { holds = (h.holds, tt); room_left = omega (arith, h.room_left); small = h.small })
by_keys_fit w path None (Some rs) s = entries_fit w (key_step path (codes "routes")) rs s
by_keys_fit w path (Some r) (Some rs) s = tt

routing_fits : (w : SoFar) (path : List ℕ) (d : Data) → IsSmall w → Holds (AreEntries w.room) (routing_read w path d)
unfolding routing_read
routing_fits w path d s = by_keys_fit w path (get (codes "route") d) (get (codes "routes") d) s

-- ---- the whole

count_all : (es : List EntryValue) → sum_by entry_count es ≡ counts entry_count es
count_all [] = refl
count_all (e ∷ es) = sum_by-cons entry_count e es ∙ ap (λ n. entry_count e + n) (count_all es)

config_with_within : (t : List EntryValue × SoFar) → AreEntries node_limit t → IsWithinLimits (config_with t)
config_with_within t h = record {
  servers = h.small.1;
  pools = all_of IsSmallPool t.1.pools.servers h.small.0;
  levels = all_of IsEntry t.0 h.holds;
  handles = subst (λ (n : ℕ). n ≤ node_limit) (sym (count_all t.0)) (omega (arith, h.room_left));
}

config_within : (path : List ℕ) (d : Data) → Holds IsWithinLimits (config_read path d)
unfolding config_read
config_within path d =
    holds_bind HasSmall IsWithinLimits (pools_read (key_step path (codes "pools")) (get (codes "pools") d)) _ (pools_small (key_step path (codes "pools")) (get (codes "pools") d))
    (λ ps h. holds_bind (AreEntries node_limit) IsWithinLimits (routing_read (at_first ps) path d) _ (routing_fits (at_first ps) path d h) (λ t k. config_with_within t k))

members_within : (path : List ℕ) (d : Data) (o : Option Members) → Holds IsWithinLimits (config_of_members path d o)
members_within path d None = tt
members_within path d (Some ms) = holds_also IsWithinLimits (keys_read (key_fault objects.Root) path ms) (config_read path d) (config_within path d)

root_within : (path : List ℕ) (d : Data) → Holds IsWithinLimits (root path d)
unfolding root
root_within path d = members_within path d (as_object d)

pub read_configs_keep_to_limits : (path : List ℕ) (d : Data) (config : ConfigValue) → root path d ≡ good config → IsWithinLimits config
read_configs_keep_to_limits path d config h = subst (Holds IsWithinLimits) h (root_within path d)
