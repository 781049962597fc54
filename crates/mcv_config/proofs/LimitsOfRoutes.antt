-- The routes that are read keep to their limits: levels, handles, and what is in each of them.
use Rattle.std.proofs.Common.{◌≡◌, ℕ, zero, suc, ◌+◌, ◌-◌, ◌≤◌, ◌==◌, nat_lt, false, List, [], ◌∷◌, ◌++◌, map, length, get_or, drop, take, Option, Some, None, Ok, Err, Result, bytes_eq, codes, refl, ap, true≢false, arith}
use Rattle.std.specs.List.{AllByRecursion, range_with_len}
use Rattle.std.proofs.lemmas.Bool.{ltb-false}
use Rattle.serde_json.specs.Data.{Data, string, Items, Members}
use Rattle.serde_json.specs.Find.{get, as_str, as_array, as_object}
use Rattle.mcv_names.specs.declared.fault.FaultKind.{FaultKind}
use Rattle.mcv_names.specs.declared.handle.Handle.{Handle}
use Rattle.mcv_names.specs.declared.handle.Handle.TheVariants as handles
use Rattle.mcv_names.specs.declared.handle.Many.{Many}
use Rattle.mcv_names.specs.declared.handle.Object.TheVariants as objects
use Rattle.mcv_names.specs.declared.handle.Selector.{Selector}
use Rattle.mcv_names.specs.declared.handle.Selector.TheVariants as selectors
use Rattle.mcv_names.specs.Fault.{Read, good, bad, ◌>>=◌}
use Rattle.mcv_names.specs.Handles.{default_key, is_elsewhere, key_fault, keys_read, handle_named, name_fault, policies_key, prefix_limit, stray_fault, type_read}
use Rattle.mcv_names.specs.Lists.{each, items_list, items_or_none, member_names, required, some_items}
use Rattle.mcv_names.specs.Path.{key_step}
use Rattle.mcv_names.proofs.ReadFacts.{Holds, holds_bind, holds_then, holds_also, holds_if}
use Rattle.mcv_config.specs.Hash.{hash_read}
use Rattle.mcv_config.specs.Limits.{handles_in, handles_below, IsWithin, AreWithin}
use Rattle.mcv_config.specs.ConfigValue.{Named, PrefixValue, ShadowValue, server, null, error, nameds_of, last_of}
use Rattle.mcv_config.specs.Pools.{pool_named, pool_read}
use Rattle.mcv_config.specs.Routes.{listed, servers, only_child, plain_pool, cut, pool_prefix, text_children, with_children, of_name, of_name_and_text, of_cut, text_route, pool_object, pool_value, pool_field, pool_fields, children_value, children_field, exptime_read, start_read, interval_read, warm_up_fields, migrate_fields, fields, of_type, object_route, handle_of, in_room, route}
use Rattle.mcv_config.specs.Selectors.{policy_read, policies_of_members, policies_read, default_read, of_operation, selecting, selector_fields}
use Rattle.mcv_config.specs.Shadows.{range_read, shadow_fields, shadow_of_members, shadow_read, shadows_read}
use Rattle.mcv_config.specs.Walk.{SoFar, Reader, route_under, taken, two_under}
use Rattle.mcv_config.proofs.HandleRoom.{holds_both, holds_more, IsSmall, pool_more, Fits, no_handle, still, counts, Each, none_fit, each_fits, each_member_fits}
use Rattle.mcv_config.proofs.LimitsOfFields.{IsHash, IsName, IsSeconds, exptime_within, start_within, interval_within, hash_within, names_within}
use Rattle.mcv_config.proofs.LimitsOfPools.{IsSmallRead, pool_small}
use Rattle.mcv_config.proofs.SoundPools.{all_of}

-- ---- what is read, within n levels

abbrev AreBelow : ℕ → List Named → Type 0
AreBelow n ts = AreWithin n (nameds_of ts)

abbrev count_below : List Named → ℕ
count_below ts = handles_below (nameds_of ts)

of_routes : (n : ℕ) (ts : List Named) → AllByRecursion (IsWithin n) ts → AreBelow n ts
of_routes n [] h = tt
of_routes n (t ∷ ts) h = (h.0, of_routes n ts h.1)

count_routes : (ts : List Named) → counts handles_in ts ≡ count_below ts
count_routes [] = refl
count_routes (t ∷ ts) = ap (λ k. handles_in t + k) (count_routes ts)

abbrev IsShadow : ℕ → ShadowValue → Type 0
IsShadow n s = IsWithin n s.1

abbrev shadow_count : ShadowValue → ℕ
shadow_count s = handles_in s.1

of_shadows : (n : ℕ) (ss : List ShadowValue) → AllByRecursion (IsShadow n) ss → AreBelow n (map (λ s. s.1) ss)
of_shadows n [] h = tt
of_shadows n (s ∷ ss) h = (h.0, of_shadows n ss h.1)

count_shadows : (ss : List ShadowValue) → counts shadow_count ss ≡ count_below (map (λ s. s.1) ss)
count_shadows [] = refl
count_shadows (s ∷ ss) = ap (λ k. handles_in s.1 + k) (count_shadows ss)

abbrev IsPolicy : Selector → ℕ → PrefixValue → Type 0
IsPolicy k n p = IsName k p.0 × IsWithin n p.1

abbrev policy_count : PrefixValue → ℕ
policy_count p = handles_in p.1

of_policies : (k : Selector) (n : ℕ) (ps : List PrefixValue) (ts : List Named) → AllByRecursion (IsPolicy k n) ps → AreBelow n ts → AreBelow n (map (λ p. p.1) ps ++ ts)
of_policies k n [] ts h l = l
of_policies k n (p ∷ ps) ts h l = (h.0.1, of_policies k n ps ts h.1 l)

of_operations : (k : Selector) (n : ℕ) (ps : List PrefixValue) (ts : List Named) → AllByRecursion (IsPolicy k n) ps → AreBelow n ts → AreBelow n (map (λ p. p.1) (map of_operation ps) ++ ts)
of_operations k n [] ts h l = l
of_operations k n (p ∷ ps) ts h l = (h.0.1, of_operations k n ps ts h.1 l)

count_policies : (ps : List PrefixValue) (ts : List Named) → count_below (map (λ p. p.1) ps ++ ts) ≡ counts policy_count ps + count_below ts
count_policies [] ts = omega arith
count_policies (p ∷ ps) ts = let more : count_below (map (λ p. p.1) ps ++ ts) ≡ counts policy_count ps + count_below ts = count_policies ps ts in omega (arith, more)

count_operations : (ps : List PrefixValue) (ts : List Named) → count_below (map (λ p. p.1) (map of_operation ps) ++ ts) ≡ counts policy_count ps + count_below ts
count_operations [] ts = omega arith
count_operations (p ∷ ps) ts = let more : count_below (map (λ p. p.1) (map of_operation ps) ++ ts) ≡ counts policy_count ps + count_below ts = count_operations ps ts in omega (arith, more)

prefixes_short : (n : ℕ) (ps : List PrefixValue) → AllByRecursion (IsPolicy selectors.Prefix n) ps → AllByRecursion (λ p. length p ≤ prefix_limit) (map (λ p. p.0) ps)
prefixes_short n [] h = tt
prefixes_short n (p ∷ ps) h = (h.0.0, prefixes_short n ps h.1)

abbrev IsLast : ℕ → Option Named → Type 0
IsLast n t = AreBelow n (last_of t)

abbrev last_count : Option Named → ℕ
last_count t = count_below (last_of t)

abbrev AreBoth : ℕ → Named × Named → Type 0
AreBoth n t = IsWithin n t.0 × IsWithin n t.1

abbrev both_count : Named × Named → ℕ
both_count t = handles_in t.0 + handles_in t.1

-- ---- pools of routes

abbrev AnyNumber : ℕ → Type 0
AnyNumber i = Unit {0}

object_small : (w : SoFar) (path : List ℕ) (d : Data) → IsSmall w → Holds (Fits AnyNumber no_handle w.room) (pool_object w path d)
unfolding pool_object
object_small w path d s =
    holds_bind IsSmallRead (Fits AnyNumber no_handle w.room) (pool_read w.table path [] d) _ (pool_small w.table path [] d s.1)
    (λ x h. record { holds = tt; room_left = omega arith; small = (pool_more w.pools.servers x.0 s.0 h.0, h.1) })

pool_value_fits : (w : SoFar) (path : List ℕ) (d : Data) (o : Option (List ℕ)) → IsSmall w → Holds (Fits AnyNumber no_handle w.room) (pool_value w path d o)
pool_value_fits w path d (Some name) s = holds_then (Fits AnyNumber no_handle w.room) (pool_named w.pools path name) _ (λ i. still AnyNumber w i s tt)
pool_value_fits w path d None s = object_small w path d s

pool_field_fits : (w : SoFar) (path : List ℕ) (d : Data) → IsSmall w → Holds (Fits AnyNumber no_handle w.room) (pool_field w path d)
unfolding pool_field
pool_field_fits w path d s = holds_then (Fits AnyNumber no_handle w.room) (required (get (codes "pool") d) path) _ (λ p. pool_value_fits w (key_step path (codes "pool")) p (as_str p) s)

-- ---- the servers of a pool, one level deeper

range_within : (n i a m : ℕ) → (n == 0) ≡ false → AreBelow n (map (server i) (range_with_len a m))
range_within zero i a m e = absurd (true≢false e)
range_within (suc n) i a zero e = tt
range_within (suc n) i a (suc m) e = (tt, range_within (suc n) i (a + 1) m e)

range_count : (i a m : ℕ) → count_below (map (server i) (range_with_len a m)) ≡ m
range_count i a zero = refl
range_count i a (suc m) = let more : count_below (map (server i) (range_with_len (a + 1) m)) ≡ m = range_count i (a + 1) m in omega (arith, more)

servers_fit : (depth : ℕ) (w : SoFar) (path : List ℕ) (i : ℕ) → IsSmall w → Holds (Fits (AreBelow depth) count_below w.room) (servers depth w path i)
unfolding servers
servers_fit depth w path i s =
    let n : ℕ = length (get_or w.pools.servers i []) in
    holds_if (Fits (AreBelow depth) count_below w.room) (depth == 0) _ _ (λ _. tt)
    (λ below. holds_if (Fits (AreBelow depth) count_below w.room) (nat_lt w.room n) _ _ (λ _. tt)
    (λ e. let enough : n ≤ w.room = ltb-false w.room n e in
    record { holds = range_within depth i 0 n below; room_left = omega (arith, range_count i 0 n, enough); small = s }))

-- ---- handles over a reader of those below them, which go so many levels deep

module _ (depth : ℕ) (reader : Reader) (one : (w : SoFar) (path : List ℕ) (d : Data) → IsSmall w → Holds (Fits (IsWithin depth) handles_in w.room) (reader w path d)) where
  abbrev IsRead : ℕ → Named × SoFar → Type 0
  IsRead room = Fits (IsWithin depth) handles_in room

  -- a handle itself, in whose room those below it are
  abbrev IsHandle : ℕ → Named × SoFar → Type 0
  IsHandle room = Fits (IsWithin (suc depth)) handles_in (suc room)

  abbrev AreRead : ℕ → List Named × SoFar → Type 0
  AreRead room = Fits (AreBelow depth) count_below room

  alone : (w : SoFar) (t : Named) → IsSmall w → IsWithin (suc depth) t → handles_in t ≡ 1 → IsHandle w.room (t, w)
  alone w t s h count = record { holds = h; room_left = omega (arith, count); small = s }

  pub under_fits : (w : SoFar) (path key : List ℕ) (d : Data) → IsSmall w → Holds (IsRead w.room) (route_under reader w path key d)
  unfolding route_under
  under_fits w path key d s = holds_then (IsRead w.room) (required (get key d) path) _ (λ v. one w (key_step path key) v s)

  only_fits : (w : SoFar) (path : List ℕ) (d : Data) → IsSmall w → Holds (AreRead w.room) (reader w path d >>= λ (x : Named × SoFar). good (only_child x))
  only_fits w path d s =
      holds_bind (IsRead w.room) (AreRead w.room) (reader w path d) _ (one w path d s)
      (λ x h. record { holds = (h.holds, tt); room_left = omega (arith, h.room_left); small = h.small })

  -- ---- texts

  text_children_fit : (w : SoFar) (path text : List ℕ) → IsSmall w → Holds (AreRead w.room) (text_children depth reader w path text)
  unfolding text_children
  text_children_fit w path text s =
      holds_if (AreRead w.room) (bytes_eq (take 5 text) pool_prefix) _ _
      (λ _. holds_then (AreRead w.room) (pool_named w.pools path (drop 5 text)) _ (λ i. servers_fit depth w path i s))
      (λ _. only_fits w path (string text) s)

  branch_fits : (room : ℕ) (kind : Many) (xs : List Named × SoFar) → AreRead room xs → Holds (IsHandle room) (with_children kind xs)
  branch_fits room kind xs h = record { holds = h.holds; room_left = omega (arith, h.room_left); small = h.small }

  of_name_fits : (h : Result Handle FaultKind) (path : List ℕ) (w : SoFar) → IsSmall w → Holds (IsHandle w.room) (of_name h path w)
  of_name_fits (Err kind) path w s = tt
  of_name_fits (Ok handles.Pool) path w s = tt
  of_name_fits (Ok handles.Null) path w s = alone w null s tt refl
  of_name_fits (Ok handles.Error) path w s = alone w error s tt refl
  of_name_fits (Ok (handles.Many kind)) path w s = tt
  of_name_fits (Ok handles.WarmUp) path w s = tt
  of_name_fits (Ok handles.Migrate) path w s = tt
  of_name_fits (Ok (handles.Selector k)) path w s = tt

  of_name_and_text_fits : (w : SoFar) (path : List ℕ) (h : Result Handle FaultKind) (text : List ℕ) → IsSmall w → Holds (IsHandle w.room) (of_name_and_text depth reader w path h text)
  of_name_and_text_fits w path (Err kind) text s = tt
  of_name_and_text_fits w path (Ok handles.Pool) text s =
      holds_then (IsHandle w.room) (pool_named w.pools path text) _ (λ i. alone w (plain_pool i) s (omega arith, tt) refl)
  of_name_and_text_fits w path (Ok handles.Null) text s = tt
  of_name_and_text_fits w path (Ok handles.Error) text s = alone w error s tt refl
  of_name_and_text_fits w path (Ok (handles.Many kind)) text s =
      holds_bind (AreRead w.room) (IsHandle w.room) (text_children depth reader w path text) _ (text_children_fit w path text s) (branch_fits w.room kind)
  of_name_and_text_fits w path (Ok handles.WarmUp) text s = tt
  of_name_and_text_fits w path (Ok handles.Migrate) text s = tt
  of_name_and_text_fits w path (Ok (handles.Selector k)) text s = tt

  of_cut_fits : (w : SoFar) (path text : List ℕ) (o : Option (List ℕ × List ℕ)) → IsSmall w → Holds (IsHandle w.room) (of_cut depth reader w path text o)
  of_cut_fits w path text None s = of_name_fits (handle_named text) path w s
  of_cut_fits w path text (Some x) s = of_name_and_text_fits w path (handle_named x.0) x.1 s

  text_fits : (w : SoFar) (path text : List ℕ) → IsSmall w → Holds (IsHandle w.room) (text_route depth reader w path text)
  unfolding text_route
  text_fits w path text s = holds_if (IsHandle w.room) (is_elsewhere text) _ _ (λ _. tt) (λ _. of_cut_fits w path text (cut text) s)

  -- ---- lists of children

  each_child : (w : SoFar) (path : List ℕ) (ds : List Data) → IsSmall w → Holds (AreRead w.room) (each reader w path 0 ds)
  each_child w path ds s =
      holds_more (Fits (Each (IsWithin depth) handles_in) (counts handles_in) w.room) (AreRead w.room) (each reader w path 0 ds)
      (λ xs h. record { holds = of_routes depth xs.0 h.holds; room_left = omega (arith, h.room_left, count_routes xs.0); small = h.small })
      (each_fits (IsWithin depth) handles_in reader one w path 0 ds s)

  listed_fits : (w : SoFar) (path : List ℕ) (ds : List Data) → IsSmall w → Holds (AreRead w.room) (listed reader w path ds)
  listed_fits w path ds s = holds_then (AreRead w.room) (some_items path ds) _ (λ items. each_child w path items s)

  children_value_fits : (w : SoFar) (path : List ℕ) (d : Data) (o : Option (List ℕ)) (ds : Option Items) → IsSmall w → Holds (AreRead w.room) (children_value depth reader w path d o ds)
  children_value_fits w path d (Some text) ds s = text_children_fit w path text s
  children_value_fits w path d None (Some ds) s = listed_fits w path (items_list ds) s
  children_value_fits w path d None None s = only_fits w path d s

  children_field_fits : (w : SoFar) (path : List ℕ) (d : Data) → IsSmall w → Holds (AreRead w.room) (children_field depth reader w path d)
  unfolding children_field
  children_field_fits w path d s =
      holds_then (AreRead w.room) (required (get (codes "children") d) path) _ (λ c. children_value_fits w (key_step path (codes "children")) c (as_str c) (as_array c) s)

  -- ---- shadows

  shadow_fields_fit : (w : SoFar) (path : List ℕ) (d : Data) → IsSmall w → Holds (Fits (IsShadow depth) shadow_count w.room) (shadow_fields reader w path d)
  unfolding shadow_fields
  shadow_fields_fit w path d s =
      holds_then (Fits (IsShadow depth) shadow_count w.room) (range_read path d) _
      (λ range. holds_bind (IsRead w.room) (Fits (IsShadow depth) shadow_count w.room) (route_under reader w path (codes "target") d) _ (under_fits w path (codes "target") d s)
      (λ x h. record { holds = h.holds; room_left = h.room_left; small = h.small }))

  of_members_fit : (w : SoFar) (path : List ℕ) (d : Data) (o : Option Members) → IsSmall w → Holds (Fits (IsShadow depth) shadow_count w.room) (shadow_of_members reader w path d o)
  of_members_fit w path d None s = tt
  of_members_fit w path d (Some ms) s = holds_also (Fits (IsShadow depth) shadow_count w.room) (keys_read (key_fault objects.Shadow) path ms) (shadow_fields reader w path d) (shadow_fields_fit w path d s)

  shadow_fits : (w : SoFar) (path : List ℕ) (d : Data) → IsSmall w → Holds (Fits (IsShadow depth) shadow_count w.room) (shadow_read reader w path d)
  unfolding shadow_read
  shadow_fits w path d s = of_members_fit w path d (as_object d) s

  abbrev AreShadows : ℕ → List ShadowValue × SoFar → Type 0
  AreShadows room = Fits (Each (IsShadow depth) shadow_count) (counts shadow_count) room

  shadows_fit : (w : SoFar) (path : List ℕ) (o : Option Data) → IsSmall w → Holds (AreShadows w.room) (shadows_read reader w path o)
  shadows_fit w path o s = holds_then (AreShadows w.room) (items_or_none path o) _ (λ ds. each_fits (IsShadow depth) shadow_count (shadow_read reader) shadow_fits w path 0 ds s)

  pool_fields_fit : (w : SoFar) (path : List ℕ) (d : Data) → IsSmall w → Holds (IsHandle w.room) (pool_fields reader w path d)
  unfolding pool_fields
  pool_fields_fit w path d s =
      holds_bind (Fits AnyNumber no_handle w.room) (IsHandle w.room) (pool_field w path d) _ (pool_field_fits w path d s)
      (λ x h. holds_bind IsHash (IsHandle w.room) (hash_read (key_step path (codes "hash")) (get (codes "hash") d)) _ (hash_within (key_step path (codes "hash")) (get (codes "hash") d))
      (λ hash salt. holds_bind (AreShadows x.1.room) (IsHandle w.room) (shadows_read reader x.1 (key_step path (codes "shadows")) (get (codes "shadows") d)) _
      (shadows_fit x.1 (key_step path (codes "shadows")) (get (codes "shadows") d) h.small)
      (λ ss k. record { holds = (salt, of_shadows depth ss.0 k.holds); room_left = omega (arith, h.room_left, k.room_left, count_shadows ss.0); small = k.small })))

  -- ---- two children

  abbrev TwoRead : ℕ → (Named × Named) × SoFar → Type 0
  TwoRead room = Fits (AreBoth depth) both_count room

  two_fit : (w : SoFar) (path first second : List ℕ) (d : Data) → IsSmall w → Holds (TwoRead w.room) (two_under reader w path first second d)
  unfolding two_under
  two_fit w path first second d s =
      holds_bind (IsRead w.room) (TwoRead w.room) (route_under reader w path first d) _ (under_fits w path first d s)
      (λ x h. holds_bind (IsRead x.1.room) (TwoRead w.room) (route_under reader x.1 path second d) _ (under_fits x.1 path second d h.small)
      (λ y k. record { holds = (h.holds, k.holds); room_left = omega (arith, h.room_left, k.room_left); small = k.small }))

  warm_up_fits : (w : SoFar) (path : List ℕ) (d : Data) → IsSmall w → Holds (IsHandle w.room) (warm_up_fields reader w path d)
  unfolding warm_up_fields
  warm_up_fits w path d s =
      holds_bind (TwoRead w.room) (IsHandle w.room) (two_under reader w path (codes "cold") (codes "warm") d) _ (two_fit w path (codes "cold") (codes "warm") d s)
      (λ x h. holds_bind IsSeconds (IsHandle w.room) (exptime_read path d) _ (exptime_within path d)
      (λ exptime e. record { holds = (e, h.holds.0, h.holds.1); room_left = omega (arith, h.room_left); small = h.small }))

  migrate_fits : (w : SoFar) (path : List ℕ) (d : Data) → IsSmall w → Holds (IsHandle w.room) (migrate_fields reader w path d)
  unfolding migrate_fields
  migrate_fits w path d s =
      holds_bind (TwoRead w.room) (IsHandle w.room) (two_under reader w path (codes "from") (codes "to") d) _ (two_fit w path (codes "from") (codes "to") d s)
      (λ x h. holds_bind IsSeconds (IsHandle w.room) (start_read path d) _ (start_within path d)
      (λ start b. holds_bind IsSeconds (IsHandle w.room) (interval_read path d) _ (interval_within path d)
      (λ interval i. record { holds = (b, i, h.holds.0, h.holds.1); room_left = omega (arith, h.room_left); small = h.small })))

  -- ---- selectors

  policy_fits : (k : Selector) (w : SoFar) (path name : List ℕ) (d : Data) → IsName k name → IsSmall w → Holds (Fits (IsPolicy k depth) policy_count w.room) (policy_read reader w path name d)
  unfolding policy_read
  policy_fits k w path name d l s =
      holds_bind (IsRead w.room) (Fits (IsPolicy k depth) policy_count w.room) (reader w path d) _ (one w path d s) (λ x h. record { holds = (l, h.holds); room_left = h.room_left; small = h.small })

  abbrev ArePolicies : Selector → ℕ → List PrefixValue × SoFar → Type 0
  ArePolicies k room = Fits (Each (IsPolicy k depth) policy_count) (counts policy_count) room

  policies_of_members_fit : (k : Selector) (w : SoFar) (path : List ℕ) (o : Option Members) → IsSmall w → Holds (ArePolicies k w.room) (policies_of_members k reader w path o)
  policies_of_members_fit k w path None s = tt
  policies_of_members_fit k w path (Some ms) s =
      holds_both (AllByRecursion (IsName k) (member_names ms)) (ArePolicies k w.room) (keys_read (name_fault k) path ms) _ (names_within k path ms)
      (λ ns. each_member_fits (IsPolicy k depth) policy_count (IsName k) (policy_read reader) (policy_fits k) w path ms ns s)

  policies_fit : (k : Selector) (w : SoFar) (path : List ℕ) (o : Option Data) → IsSmall w → Holds (ArePolicies k w.room) (policies_read k reader w path o)
  policies_fit k w path None s = none_fit (IsPolicy k depth) policy_count w s
  policies_fit k w path (Some d) s = policies_of_members_fit k w path (as_object d) s

  default_fits : (w : SoFar) (path : List ℕ) (o : Option Data) → IsSmall w → Holds (Fits (IsLast depth) last_count w.room) (default_read reader w path o)
  default_fits w path None s = record { holds = tt; room_left = omega arith; small = s }
  default_fits w path (Some d) s =
      holds_bind (IsRead w.room) (Fits (IsLast depth) last_count w.room) (reader w path d) _ (one w path d s)
      (λ x h. record { holds = (h.holds, tt); room_left = omega (arith, h.room_left); small = h.small })

  selecting_within : (k : Selector) (ps : List PrefixValue) (t : Option Named) → AllByRecursion (IsPolicy k depth) ps → IsLast depth t → IsWithin (suc depth) (selecting k ps t)
  selecting_within selectors.Prefix ps t h l = (all_of (λ p. length p ≤ prefix_limit) (map (λ p. p.0) ps) (prefixes_short depth ps h), of_policies selectors.Prefix depth ps (last_of t) h l)
  selecting_within selectors.Operation ps t h l = of_operations selectors.Operation depth ps (last_of t) h l

  selecting_count : (k : Selector) (ps : List PrefixValue) (t : Option Named) → handles_in (selecting k ps t) ≡ suc (counts policy_count ps + last_count t)
  selecting_count selectors.Prefix ps t = ap suc (count_policies ps (last_of t))
  selecting_count selectors.Operation ps t = ap suc (count_operations ps (last_of t))

  selector_fits : (k : Selector) (w : SoFar) (path : List ℕ) (d : Data) → IsSmall w → Holds (IsHandle w.room) (selector_fields k reader w path d)
  unfolding selector_fields
  selector_fits k w path d s =
      holds_bind (ArePolicies k w.room) (IsHandle w.room) (policies_read k reader w (key_step path (policies_key k)) (get (policies_key k) d)) _
      (policies_fit k w (key_step path (policies_key k)) (get (policies_key k) d) s)
      (λ ps h. holds_bind (Fits (IsLast depth) last_count ps.1.room) (IsHandle w.room) (default_read reader ps.1 (key_step path (default_key k)) (get (default_key k) d)) _
      (default_fits ps.1 (key_step path (default_key k)) (get (default_key k) d) h.small)
      (λ t l. record { holds = selecting_within k ps.0 t.0 h.holds l.holds; room_left = omega (arith, h.room_left, l.room_left, selecting_count k ps.0 t.0); small = l.small }))

  -- ---- objects

  fields_fit : (w : SoFar) (path : List ℕ) (d : Data) (handle : Handle) → IsSmall w → Holds (IsHandle w.room) (fields depth reader w path d handle)
  unfolding fields
  fields_fit w path d handles.Pool s = pool_fields_fit w path d s
  fields_fit w path d handles.Null s = alone w null s tt refl
  fields_fit w path d handles.Error s = alone w error s tt refl
  fields_fit w path d (handles.Many kind) s = holds_bind (AreRead w.room) (IsHandle w.room) (children_field depth reader w path d) _ (children_field_fits w path d s) (branch_fits w.room kind)
  fields_fit w path d handles.WarmUp s = warm_up_fits w path d s
  fields_fit w path d handles.Migrate s = migrate_fits w path d s
  fields_fit w path d (handles.Selector k) s = selector_fits k w path d s

  of_type_fits : (w : SoFar) (path : List ℕ) (d : Data) (ms : Members) (r : Read Handle) → IsSmall w → Holds (IsHandle w.room) (of_type depth reader w path d ms r)
  of_type_fits w path d ms (good handle) s = holds_also (IsHandle w.room) (keys_read (key_fault (objects.Handle handle)) path ms) _ (fields_fit w path d handle s)
  of_type_fits w path d ms (bad faults) s = holds_also (IsHandle w.room) (keys_read stray_fault path ms) (bad faults) tt

  object_fits : (w : SoFar) (path : List ℕ) (d : Data) (ms : Members) → IsSmall w → Holds (IsHandle w.room) (object_route depth reader w path d ms)
  unfolding object_route
  object_fits w path d ms s = of_type_fits w path d ms (type_read path d) s

  handle_fits : (w : SoFar) (path : List ℕ) (d : Data) (o : Option (List ℕ)) (ms : Option Members) → IsSmall w → Holds (IsHandle w.room) (handle_of depth reader w path d o ms)
  handle_fits w path d (Some text) ms s = text_fits w path text s
  handle_fits w path d None (Some ms) s = object_fits w path d ms s
  handle_fits w path d None None s = tt

-- ---- routes

in_room_fits : (depth room : ℕ) (path : List ℕ) (r : Read (Named × SoFar)) → Holds (Fits (IsWithin depth) handles_in (suc (room - 1))) r → Holds (Fits (IsWithin depth) handles_in room) (in_room room path r)
in_room_fits depth zero path r h = tt
in_room_fits depth (suc room) path r h =
    holds_more (Fits (IsWithin depth) handles_in (suc (suc room - 1))) (Fits (IsWithin depth) handles_in (suc room)) r
    (λ x k. record { holds = k.holds; room_left = omega (arith, k.room_left); small = k.small }) h

pub route_fits : (depth : ℕ) (w : SoFar) (path : List ℕ) (d : Data) → IsSmall w → Holds (Fits (IsWithin depth) handles_in w.room) (route depth w path d)
unfolding route
route_fits zero w path d s = tt
route_fits (suc depth) w path d s = in_room_fits (suc depth) w.room path _ (handle_fits depth (route depth) (route_fits depth) (taken 1 w) path d (as_str d) (as_object d) s)
