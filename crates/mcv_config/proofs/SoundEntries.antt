-- The routes that are read are sound, each has an alias, and no alias comes twice in all of them.
use Rattle.std.proofs.Common.{◌≡◌, ℕ, suc, ◌+◌, ◌<◌, List, [], ◌∷◌, ◌++◌, length, Option, Some, None, bytes_eq, codes, refl, sym, ap, subst, ◌∙◌, arith, append_assoc}
use Rattle.std.proofs.lemmas.List.{append-nil}
use Rattle.std.specs.List.{All, AllByRecursion, IsDistinct}
use Rattle.serde_json.specs.Data.{Data, Items, Members}
use Rattle.serde_json.specs.Find.{get, as_array, as_object}
use Rattle.mcv_base.specs.Key.{default_prefix}
use Rattle.mcv_names.specs.declared.handle.Object.TheVariants as objects
use Rattle.mcv_names.specs.Fault.{Read, good, bad, ◌>>=◌}
use Rattle.mcv_names.specs.Handles.{key_fault, keys_read}
use Rattle.mcv_names.specs.Lists.{each, items_list, some_items}
use Rattle.mcv_names.specs.Path.{key_step, item_step}
use Rattle.mcv_names.proofs.ReadFacts.{Holds, holds_bind, holds_also}
use Rattle.mcv_config.specs.Aliases.{aliases_field}
use Rattle.mcv_config.specs.Entries.{Turn, depth_limit, entries_of_list, entries_read, entry_fields, entry_of_members, entry_read, only_entry, routing, routing_read}
use Rattle.mcv_config.specs.ConfigValue.{AreAliases, EntryValue, Named, IsSoundRoute, all_aliases}
use Rattle.mcv_config.specs.Routes.{route}
use Rattle.mcv_config.specs.Walk.{SoFar, route_under}
use Rattle.mcv_config.proofs.LaterPools.{Later, route_keeps, IsSoFar, Grows, Each, none_grow, more_grow}
use Rattle.mcv_config.proofs.SoundAliases.{AreSome, IsShortAlias, aliases_some, default_is}
use Rattle.mcv_config.proofs.SoundPools.{all_of, nothing_twice}
use Rattle.mcv_config.proofs.SoundRoutes.{route_sound, under_sound}

abbrev IsEntry : List (List ℕ) → EntryValue → Type 0
IsEntry ps e = IsSoundRoute ps e.route

pub entry_keeps : (ps qs : List (List ℕ)) → Later ps qs → (e : EntryValue) → IsEntry ps e → IsEntry qs e
entry_keeps ps qs l e h = route_keeps ps qs l e.route h

abbrev HasAliases : EntryValue → Type 0
HasAliases e = AreAliases e.aliases

-- ---- a route with its aliases

-- what was read behind the aliases seen, under the pools that were there
record IsNext (seen ps : List (List ℕ)) (x : EntryValue × Turn) : Type 0 where
  behind : x.1.0 ≡ seen ++ x.0.aliases
  once : IsDistinct bytes_eq x.1.0
  aliases : HasAliases x.0
  grows : Grows IsEntry ps (x.0, x.1.1)

fields_sound : (turn : Turn) (path : List ℕ) (d : Data) → IsDistinct bytes_eq turn.0 → IsSoFar turn.1 → Holds (IsNext turn.0 turn.1.pools.servers) (entry_fields turn path d)
unfolding entry_fields
fields_sound turn path d once s =
    holds_bind (AreSome turn.0) (IsNext turn.0 turn.1.pools.servers) (aliases_field turn.0 path d) _ (aliases_some turn.0 path d once)
    (λ a h. holds_bind (Grows IsSoundRoute turn.1.pools.servers) (IsNext turn.0 turn.1.pools.servers) (route_under (route depth_limit) turn.1 path (codes "route") d) _
    (under_sound depth_limit (route depth_limit) (route_sound depth_limit) turn.1 path (codes "route") d s)
    (λ x k. record {
      behind = h.behind;
      once = h.once;
      aliases = record { some = h.some; each = all_of IsShortAlias a.0 h.aliases };
      grows = record { holds = k.holds; later = k.later; sound = k.sound };
    }))

of_members_sound : (turn : Turn) (path : List ℕ) (d : Data) (o : Option Members) → IsDistinct bytes_eq turn.0 → IsSoFar turn.1 → Holds (IsNext turn.0 turn.1.pools.servers) (entry_of_members turn path d o)
of_members_sound turn path d None once s = tt
of_members_sound turn path d (Some ms) once s =
    holds_also (IsNext turn.0 turn.1.pools.servers) (keys_read (key_fault objects.Entry) path ms) (entry_fields turn path d) (fields_sound turn path d once s)

entry_sound : (turn : Turn) (path : List ℕ) (d : Data) → IsDistinct bytes_eq turn.0 → IsSoFar turn.1 → Holds (IsNext turn.0 turn.1.pools.servers) (entry_read turn path d)
unfolding entry_read
entry_sound turn path d once s = of_members_sound turn path d (as_object d) once s

-- ---- routes in turn

record AreNext (seen ps : List (List ℕ)) (ds : List Data) (x : List EntryValue × Turn) : Type 0 where
  behind : x.1.0 ≡ seen ++ all_aliases x.0
  once : IsDistinct bytes_eq x.1.0
  aliases : AllByRecursion HasAliases x.0
  grows : Grows (Each IsEntry entry_keeps) ps (x.0, x.1.1)
  count : length x.0 ≡ length ds

each_sound : (turn : Turn) (path : List ℕ) (i : ℕ) (ds : List Data) → IsDistinct bytes_eq turn.0 → IsSoFar turn.1 → Holds (AreNext turn.0 turn.1.pools.servers ds) (each entry_read turn path i ds)
unfolding each
each_sound turn path i [] once s =
    record { behind = sym (append-nil turn.0); once = once; aliases = tt; grows = none_grow IsEntry entry_keeps turn.1 s; count = refl }
each_sound turn path i (d ∷ ds) once s =
    holds_bind (IsNext turn.0 turn.1.pools.servers) (AreNext turn.0 turn.1.pools.servers (d ∷ ds)) (entry_read turn (item_step path i) d) _ (entry_sound turn (item_step path i) d once s)
    (λ x h. holds_bind (AreNext x.1.0 x.1.1.pools.servers ds) (AreNext turn.0 turn.1.pools.servers (d ∷ ds)) (each entry_read x.1 path (i + 1) ds) _ (each_sound x.1 path (i + 1) ds h.once h.grows.sound)
    (λ xs k. record {
      behind = k.behind ∙ ap (λ s. s ++ all_aliases xs.0) h.behind ∙ append_assoc turn.0 x.0.aliases (all_aliases xs.0);
      once = k.once;
      aliases = (h.aliases, k.aliases);
      grows = more_grow IsEntry entry_keeps turn.1.pools.servers (x.0, x.1.1) (xs.0, xs.1.1) h.grows k.grows;
      count = ap suc k.count;
    }))

-- ---- the routes of a configuration

pub record AreEntries (ps : List (List ℕ)) (x : List EntryValue × SoFar) : Type 0 where
  pub apart : IsDistinct bytes_eq (all_aliases x.0)
  pub aliases : AllByRecursion HasAliases x.0
  pub some : 0 < length x.0
  pub grows : Grows (Each IsEntry entry_keeps) ps x

abbrev WithTurn : List (List ℕ) → List EntryValue × Turn → Type 0
WithTurn ps x = AreEntries ps (x.0, x.1.1)

listed_sound : (w : SoFar) (path : List ℕ) (ds : List Data) → IsSoFar w → Holds (WithTurn w.pools.servers) (some_items path ds >>= each entry_read ([], w) path 0)
unfolding some_items
listed_sound w path [] s = tt
listed_sound w path (d ∷ ds) s = then_all (each entry_read ([], w) path 0 (d ∷ ds)) (each_sound ([], w) path 0 (d ∷ ds) nothing_twice s)
  where
    then_all : (r : Read (List EntryValue × Turn)) → Holds (AreNext [] w.pools.servers (d ∷ ds)) r → Holds (WithTurn w.pools.servers) r
    then_all (good x) h = record { apart = subst (IsDistinct bytes_eq) h.behind h.once; aliases = h.aliases; some = omega (arith, h.count); grows = h.grows }
    then_all (bad faults) h = tt

of_list_sound : (w : SoFar) (path : List ℕ) (o : Option Items) → IsSoFar w → Holds (WithTurn w.pools.servers) (entries_of_list w path o)
of_list_sound w path None s = tt
of_list_sound w path (Some ds) s = listed_sound w path (items_list ds) s

entries_sound : (w : SoFar) (path : List ℕ) (d : Data) → IsSoFar w → Holds (AreEntries w.pools.servers) (entries_read w path d)
unfolding entries_read
entries_sound w path d s =
    holds_bind (WithTurn w.pools.servers) (AreEntries w.pools.servers) (entries_of_list w path (as_array d)) _ (of_list_sound w path (as_array d) s) (λ x h. h)

one_alias : IsDistinct bytes_eq (default_prefix ∷ [])
unfolding IsDistinct
one_alias = (tt, tt)

only_sound : (ps : List (List ℕ)) (t : Named × SoFar) → Grows IsSoundRoute ps t → AreEntries ps (only_entry t.0, t.1)
only_sound ps t h = record {
  apart = one_alias;
  aliases = (record { some = omega arith; each = all_of IsShortAlias (default_prefix ∷ []) (default_is, tt) }, tt);
  some = omega arith;
  grows = record { holds = (h.holds, tt); later = h.later; sound = h.sound };
}

by_keys_sound : (w : SoFar) (path : List ℕ) (r rs : Option Data) → IsSoFar w → Holds (AreEntries w.pools.servers) (routing w path r rs)
by_keys_sound w path None None s = tt
by_keys_sound w path (Some r) None s =
    holds_bind (Grows IsSoundRoute w.pools.servers) (AreEntries w.pools.servers) (route depth_limit w (key_step path (codes "route")) r) _
    (route_sound depth_limit w (key_step path (codes "route")) r s) (λ t h. only_sound w.pools.servers t h)
by_keys_sound w path None (Some rs) s = entries_sound w (key_step path (codes "routes")) rs s
by_keys_sound w path (Some r) (Some rs) s = tt

pub routing_sound : (w : SoFar) (path : List ℕ) (d : Data) → IsSoFar w → Holds (AreEntries w.pools.servers) (routing_read w path d)
unfolding routing_read
routing_sound w path d s = by_keys_sound w path (get (codes "route") d) (get (codes "routes") d) s

pub sound_routes : (ps : List (List ℕ)) (x : List EntryValue × SoFar) → AreEntries ps x → All (λ e. IsSoundRoute x.1.pools.servers e.route) x.0
sound_routes ps x h = all_of (IsEntry x.1.pools.servers) x.0 h.grows.holds

pub sound_aliases : (ps : List (List ℕ)) (x : List EntryValue × SoFar) → AreEntries ps x → All (λ e. AreAliases e.aliases) x.0
sound_aliases ps x h = all_of HasAliases x.0 h.aliases
