-- The routes that are read are sound, under the pools that are there once they are read.
use Rattle.std.proofs.Common.{◌≡◌, ◌≢◌, ℕ, zero, suc, ◌+◌, ◌<◌, ◌≤◌, ◌==◌, nat_lt, List, [], ◌∷◌, ◌++◌, map, length, get_or, drop, Option, Some, None, Ok, Err, Result, bytes_eq, codes, refl, take, arith, length-append}
use Rattle.std.specs.List.{AllByRecursion, range_with_len}
use Rattle.std.proofs.lemmas.List.Quantifiers.{position-Some}
use Rattle.serde_json.specs.Data.{Data, string, Items, Members}
use Rattle.serde_json.specs.Find.{get, as_str, as_array, as_object}
use Rattle.mcv_pools.specs.Table.{number_in}
use Rattle.mcv_names.specs.declared.fault.FaultKind.{FaultKind}
use Rattle.mcv_names.specs.declared.handle.Handle.{Handle}
use Rattle.mcv_names.specs.declared.handle.Handle.TheVariants as handles
use Rattle.mcv_names.specs.declared.handle.Many.{Many}
use Rattle.mcv_names.specs.declared.handle.Selector.{Selector}
use Rattle.mcv_names.specs.declared.handle.Selector.TheVariants as selectors
use Rattle.mcv_names.specs.declared.handle.Object.TheVariants as objects
use Rattle.mcv_names.specs.Fault.{Read, good, bad, ◌>>=◌}
use Rattle.mcv_names.specs.Handles.{default_key, is_elsewhere, key_fault, keys_read, handle_named, name_fault, policies_key, stray_fault, type_read}
use Rattle.mcv_config.specs.Hash.{hash_read}
use Rattle.mcv_names.specs.Lists.{each, items_list, items_or_none, required, some_items}
use Rattle.mcv_names.specs.Path.{key_step, item_step}
use Rattle.mcv_config.specs.ConfigValue.{Named, no_named, PrefixValue, ShadowValue, server, null, error, nameds_of, last_of, IsSoundRoute, AreSoundRoutes}
use Rattle.mcv_config.specs.Pools.{Table, number_read, pool_named, pool_read}
use Rattle.mcv_config.specs.Routes.{listed, servers, only_child, plain_pool, cut, pool_prefix, text_children, with_children, of_name, of_name_and_text, of_cut, text_route, pool_object, pool_value, pool_field, pool_fields, children_value, children_field, exptime_read, start_read, interval_read, warm_up_fields, migrate_fields, fields, of_type, object_route, handle_of, in_room, route}
use Rattle.mcv_config.specs.Selectors.{policy_read, policies_of_members, policies_read, default_read, of_operation, selecting, selector_fields}
use Rattle.mcv_config.specs.Shadows.{range_read, shadow_fields, shadow_of_members, shadow_read, shadows_read}
use Rattle.mcv_config.specs.Walk.{SoFar, Reader, route_under, taken, two_under, with_pool}
use Rattle.mcv_names.proofs.ReadFacts.{Holds, holds_bind, holds_then, holds_also, holds_if}
use Rattle.mcv_config.proofs.LaterPools.{Later, later_than, later_more, route_keeps, IsSoFar, Grows, still, pool_behind, Each, none_grow, each_grows, each_member_grows}
use Rattle.mcv_config.proofs.SoundPools.{Grown, IsPool, pool_grown, some_servers}

-- ---- what is read, under so many pools

abbrev AreSome : List (List ℕ) → List Named → Type 0
AreSome ps ts = (nameds_of ts ≢ no_named) × AreSoundRoutes ps (nameds_of ts)

abbrev IsNumber : List (List ℕ) → ℕ → Type 0
IsNumber ps i = i < length ps

abbrev AreBoth : List (List ℕ) → Named × Named → Type 0
AreBoth ps t = IsSoundRoute ps t.0 × IsSoundRoute ps t.1

abbrev IsShadow : List (List ℕ) → ShadowValue → Type 0
IsShadow ps s = IsSoundRoute ps s.1

abbrev IsPolicy : List (List ℕ) → PrefixValue → Type 0
IsPolicy ps p = IsSoundRoute ps p.1

abbrev IsLast : List (List ℕ) → Option Named → Type 0
IsLast ps t = AreSoundRoutes ps (nameds_of (last_of t))

shadow_keeps : (ps qs : List (List ℕ)) → Later ps qs → (s : ShadowValue) → IsShadow ps s → IsShadow qs s
shadow_keeps ps qs l s h = route_keeps ps qs l s.1 h

policy_keeps : (ps qs : List (List ℕ)) → Later ps qs → (p : PrefixValue) → IsPolicy ps p → IsPolicy qs p
policy_keeps ps qs l p h = route_keeps ps qs l p.1 h

of_routes : (ps : List (List ℕ)) (ts : List Named) → AllByRecursion (IsSoundRoute ps) ts → AreSoundRoutes ps (nameds_of ts)
of_routes ps [] h = tt
of_routes ps (t ∷ ts) h = (h.0, of_routes ps ts h.1)

of_shadows : (ps : List (List ℕ)) (ss : List ShadowValue) → AllByRecursion (IsShadow ps) ss → AreSoundRoutes ps (nameds_of (map (λ s. s.1) ss))
of_shadows ps [] h = tt
of_shadows ps (s ∷ ss) h = (h.0, of_shadows ps ss h.1)

-- the policies, and what comes behind them
of_policies : (ps : List (List ℕ)) (qs : List PrefixValue) (ts : List Named) → AllByRecursion (IsPolicy ps) qs → AreSoundRoutes ps (nameds_of ts) → AreSoundRoutes ps (nameds_of (map (λ p. p.1) qs ++ ts))
of_policies ps [] ts h k = k
of_policies ps (q ∷ qs) ts h k = (h.0, of_policies ps qs ts h.1 k)

of_operations : (ps : List (List ℕ)) (qs : List PrefixValue) (ts : List Named) → AllByRecursion (IsPolicy ps) qs → AreSoundRoutes ps (nameds_of ts) → AreSoundRoutes ps (nameds_of (map (λ p. p.1) (map of_operation qs) ++ ts))
of_operations ps [] ts h k = k
of_operations ps (q ∷ qs) ts h k = (h.0, of_operations ps qs ts h.1 k)

policies_keep : (ps qs : List (List ℕ)) → Later ps qs → (xs : List PrefixValue) → AllByRecursion (IsPolicy ps) xs → AllByRecursion (IsPolicy qs) xs
policies_keep ps qs l [] h = tt
policies_keep ps qs l (x ∷ xs) h = (policy_keeps ps qs l x h.0, policies_keep ps qs l xs h.1)

-- ---- pools

number_sound : (w : SoFar) (path name : List ℕ) (o : Option ℕ) → IsSoFar w → number_in bytes_eq w.pools.names name ≡ o → Holds (IsNumber w.pools.servers) (number_read o path)
number_sound w path name None s e = tt
number_sound w path name (Some i) s e =
    let within : i < length w.pools.names = (position-Some (bytes_eq name) w.pools.names i [] e).0 in
    omega (arith, s.fits)

named_sound : (w : SoFar) (path name : List ℕ) → IsSoFar w → Holds (IsNumber w.pools.servers) (pool_named w.pools path name)
unfolding pool_named
named_sound w path name s = holds_if (IsNumber w.pools.servers) (is_elsewhere name) _ _ (λ _. tt) (λ _. number_sound w path name (number_in bytes_eq w.pools.names name) s refl)

added : (w : SoFar) (x : List ℕ × Table) → IsSoFar w → Grown IsPool w.table x → Grows IsNumber w.pools.servers (length w.pools.servers, with_pool x.0 x.1 w)
added w x s h = record {
  holds = omega (arith, length-append w.pools.servers (x.0 ∷ []));
  later = later_more w.pools.servers x.0;
  sound = pool_behind w x s h;
}

object_added : (w : SoFar) (path : List ℕ) (d : Data) → IsSoFar w → Holds (Grows IsNumber w.pools.servers) (pool_object w path d)
unfolding pool_object
object_added w path d s =
    holds_bind (Grown IsPool w.table) (Grows IsNumber w.pools.servers) (pool_read w.table path [] d) _ (pool_grown w.table path [] d s.is_table) (λ x h. added w x s h)

value_sound : (w : SoFar) (path : List ℕ) (d : Data) (o : Option (List ℕ)) → IsSoFar w → Holds (Grows IsNumber w.pools.servers) (pool_value w path d o)
value_sound w path d (Some name) s =
    holds_bind (IsNumber w.pools.servers) (Grows IsNumber w.pools.servers) (pool_named w.pools path name) _ (named_sound w path name s) (λ i h. still IsNumber w i s h)
value_sound w path d None s = object_added w path d s

pool_field_sound : (w : SoFar) (path : List ℕ) (d : Data) → IsSoFar w → Holds (Grows IsNumber w.pools.servers) (pool_field w path d)
unfolding pool_field
pool_field_sound w path d s =
    holds_then (Grows IsNumber w.pools.servers) (required (get (codes "pool") d) path) _ (λ p. value_sound w (key_step path (codes "pool")) p (as_str p) s)

-- ---- the servers of a pool

range_sound : (ps : List (List ℕ)) (i : ℕ) → i < length ps → (a n : ℕ) → a + n ≤ length (get_or ps i []) → AreSoundRoutes ps (nameds_of (map (server i) (range_with_len a n)))
range_sound ps i h a zero l = tt
range_sound ps i h a (suc n) l = ((h, omega arith), range_sound ps i h (a + 1) n (omega arith))

some_range : (i a n : ℕ) → 0 < n → nameds_of (map (server i) (range_with_len a n)) ≢ no_named
some_range i a zero h = absurd (omega arith)
some_range i a (suc n) h = λ e. cc

room_taken : (n : ℕ) (w : SoFar) → IsSoFar w → IsSoFar (taken n w)
room_taken n w s = record { fits = s.fits; pools = s.pools; is_table = s.is_table }

servers_sound : (depth : ℕ) (w : SoFar) (path : List ℕ) (i : ℕ) → IsSoFar w → i < length w.pools.servers → Holds (Grows AreSome w.pools.servers) (servers depth w path i)
unfolding servers
servers_sound depth w path i s h =
    let n : ℕ = length (get_or w.pools.servers i []) in
    let some : 0 < n = some_servers w.table w.pools.servers s.pools i h in
    holds_if (Grows AreSome w.pools.servers) (depth == 0) _ _ (λ _. tt)
    (λ _. holds_if (Grows AreSome w.pools.servers) (nat_lt w.room n) _ _ (λ _. tt)
    (λ _. still AreSome (taken n w) (map (server i) (range_with_len 0 n)) (room_taken n w s) (some_range i 0 n some, range_sound w.pools.servers i h 0 n (omega arith))))

-- ---- handles over a reader

module _ (depth : ℕ) (reader : Reader) (one : (w : SoFar) (path : List ℕ) (d : Data) → IsSoFar w → Holds (Grows IsSoundRoute w.pools.servers) (reader w path d)) where
  pub under_sound : (w : SoFar) (path key : List ℕ) (d : Data) → IsSoFar w → Holds (Grows IsSoundRoute w.pools.servers) (route_under reader w path key d)
  unfolding route_under
  under_sound w path key d s = holds_then (Grows IsSoundRoute w.pools.servers) (required (get key d) path) _ (λ v. one w (key_step path key) v s)

  only_sound : (w : SoFar) (path : List ℕ) (d : Data) → IsSoFar w → Holds (Grows AreSome w.pools.servers) (reader w path d >>= λ (x : Named × SoFar). good (only_child x))
  only_sound w path d s =
      holds_bind (Grows IsSoundRoute w.pools.servers) (Grows AreSome w.pools.servers) (reader w path d) _ (one w path d s)
      (λ x h. record { holds = ((λ e. cc), (h.holds, tt)); later = h.later; sound = h.sound })

  -- ---- texts

  text_children_sound : (w : SoFar) (path text : List ℕ) → IsSoFar w → Holds (Grows AreSome w.pools.servers) (text_children depth reader w path text)
  unfolding text_children
  text_children_sound w path text s =
      holds_if (Grows AreSome w.pools.servers) (bytes_eq (take 5 text) pool_prefix) _ _
      (λ _. holds_bind (IsNumber w.pools.servers) (Grows AreSome w.pools.servers) (pool_named w.pools path (drop 5 text)) _ (named_sound w path (drop 5 text) s) (λ i h. servers_sound depth w path i s h))
      (λ _. only_sound w path (string text) s)

  branch_sound : (ps : List (List ℕ)) (kind : Many) (xs : List Named × SoFar) → Grows AreSome ps xs → Holds (Grows IsSoundRoute ps) (with_children kind xs)
  branch_sound ps kind xs h = record { holds = h.holds; later = h.later; sound = h.sound }

  of_name_sound : (h : Result Handle FaultKind) (path : List ℕ) (w : SoFar) → IsSoFar w → Holds (Grows IsSoundRoute w.pools.servers) (of_name h path w)
  of_name_sound (Err kind) path w s = tt
  of_name_sound (Ok handles.Pool) path w s = tt
  of_name_sound (Ok handles.Null) path w s = still IsSoundRoute w null s tt
  of_name_sound (Ok handles.Error) path w s = still IsSoundRoute w error s tt
  of_name_sound (Ok (handles.Many kind)) path w s = tt
  of_name_sound (Ok handles.WarmUp) path w s = tt
  of_name_sound (Ok handles.Migrate) path w s = tt
  of_name_sound (Ok (handles.Selector k)) path w s = tt

  of_name_and_text_sound : (w : SoFar) (path : List ℕ) (h : Result Handle FaultKind) (text : List ℕ) → IsSoFar w → Holds (Grows IsSoundRoute w.pools.servers) (of_name_and_text depth reader w path h text)
  of_name_and_text_sound w path (Err kind) text s = tt
  of_name_and_text_sound w path (Ok handles.Pool) text s =
      holds_bind (IsNumber w.pools.servers) (Grows IsSoundRoute w.pools.servers) (pool_named w.pools path text) _ (named_sound w path text s) (λ i h. still IsSoundRoute w (plain_pool i) s (h, tt))
  of_name_and_text_sound w path (Ok handles.Null) text s = tt
  of_name_and_text_sound w path (Ok handles.Error) text s = still IsSoundRoute w error s tt
  of_name_and_text_sound w path (Ok (handles.Many kind)) text s =
      holds_bind (Grows AreSome w.pools.servers) (Grows IsSoundRoute w.pools.servers) (text_children depth reader w path text) _ (text_children_sound w path text s) (branch_sound w.pools.servers kind)
  of_name_and_text_sound w path (Ok handles.WarmUp) text s = tt
  of_name_and_text_sound w path (Ok handles.Migrate) text s = tt
  of_name_and_text_sound w path (Ok (handles.Selector k)) text s = tt

  of_cut_sound : (w : SoFar) (path text : List ℕ) (o : Option (List ℕ × List ℕ)) → IsSoFar w → Holds (Grows IsSoundRoute w.pools.servers) (of_cut depth reader w path text o)
  of_cut_sound w path text None s = of_name_sound (handle_named text) path w s
  of_cut_sound w path text (Some x) s = of_name_and_text_sound w path (handle_named x.0) x.1 s

  text_sound : (w : SoFar) (path text : List ℕ) → IsSoFar w → Holds (Grows IsSoundRoute w.pools.servers) (text_route depth reader w path text)
  unfolding text_route
  text_sound w path text s = holds_if (Grows IsSoundRoute w.pools.servers) (is_elsewhere text) _ _ (λ _. tt) (λ _. of_cut_sound w path text (cut text) s)

  -- ---- lists of children

  each_some : (w : SoFar) (path : List ℕ) (d : Data) (ds : List Data) → IsSoFar w → Holds (Grows AreSome w.pools.servers) (each reader w path 0 (d ∷ ds))
  unfolding each
  each_some w path d ds s =
      holds_bind (Grows IsSoundRoute w.pools.servers) (Grows AreSome w.pools.servers) (reader w (item_step path 0) d) _ (one w (item_step path 0) d s)
      (λ x h. holds_bind (Grows (Each IsSoundRoute route_keeps) x.1.pools.servers) (Grows AreSome w.pools.servers) (each reader x.1 path 1 ds) _ (each_grows IsSoundRoute route_keeps reader one x.1 path 1 ds h.sound)
      (λ xs k. record {
        holds = ((λ e. cc), (route_keeps x.1.pools.servers xs.1.pools.servers k.later x.0 h.holds, of_routes xs.1.pools.servers xs.0 k.holds));
        later = later_than w.pools.servers x.1.pools.servers xs.1.pools.servers h.later k.later;
        sound = k.sound;
      }))

  listed_sound : (w : SoFar) (path : List ℕ) (ds : List Data) → IsSoFar w → Holds (Grows AreSome w.pools.servers) (listed reader w path ds)
  unfolding some_items
  listed_sound w path [] s = tt
  listed_sound w path (d ∷ ds) s = each_some w path d ds s

  children_value_sound : (w : SoFar) (path : List ℕ) (d : Data) (o : Option (List ℕ)) (ds : Option Items) → IsSoFar w → Holds (Grows AreSome w.pools.servers) (children_value depth reader w path d o ds)
  children_value_sound w path d (Some text) ds s = text_children_sound w path text s
  children_value_sound w path d None (Some ds) s = listed_sound w path (items_list ds) s
  children_value_sound w path d None None s = only_sound w path d s

  children_field_sound : (w : SoFar) (path : List ℕ) (d : Data) → IsSoFar w → Holds (Grows AreSome w.pools.servers) (children_field depth reader w path d)
  unfolding children_field
  children_field_sound w path d s =
      holds_then (Grows AreSome w.pools.servers) (required (get (codes "children") d) path) _ (λ c. children_value_sound w (key_step path (codes "children")) c (as_str c) (as_array c) s)

  -- ---- shadows

  shadow_fields_sound : (w : SoFar) (path : List ℕ) (d : Data) → IsSoFar w → Holds (Grows IsShadow w.pools.servers) (shadow_fields reader w path d)
  unfolding shadow_fields
  shadow_fields_sound w path d s =
      holds_then (Grows IsShadow w.pools.servers) (range_read path d) _
      (λ range. holds_bind (Grows IsSoundRoute w.pools.servers) (Grows IsShadow w.pools.servers) (route_under reader w path (codes "target") d) _ (under_sound w path (codes "target") d s)
      (λ x h. record { holds = h.holds; later = h.later; sound = h.sound }))

  of_members_sound : (w : SoFar) (path : List ℕ) (d : Data) (o : Option Members) → IsSoFar w → Holds (Grows IsShadow w.pools.servers) (shadow_of_members reader w path d o)
  of_members_sound w path d None s = tt
  of_members_sound w path d (Some ms) s = holds_also (Grows IsShadow w.pools.servers) (keys_read (key_fault objects.Shadow) path ms) (shadow_fields reader w path d) (shadow_fields_sound w path d s)

  shadow_sound : (w : SoFar) (path : List ℕ) (d : Data) → IsSoFar w → Holds (Grows IsShadow w.pools.servers) (shadow_read reader w path d)
  unfolding shadow_read
  shadow_sound w path d s = of_members_sound w path d (as_object d) s

  shadows_sound : (w : SoFar) (path : List ℕ) (o : Option Data) → IsSoFar w → Holds (Grows (Each IsShadow shadow_keeps) w.pools.servers) (shadows_read reader w path o)
  shadows_sound w path o s =
      holds_then (Grows (Each IsShadow shadow_keeps) w.pools.servers) (items_or_none path o) _ (λ ds. each_grows IsShadow shadow_keeps (shadow_read reader) shadow_sound w path 0 ds s)

  pool_fields_sound : (w : SoFar) (path : List ℕ) (d : Data) → IsSoFar w → Holds (Grows IsSoundRoute w.pools.servers) (pool_fields reader w path d)
  unfolding pool_fields
  pool_fields_sound w path d s =
      holds_bind (Grows IsNumber w.pools.servers) (Grows IsSoundRoute w.pools.servers) (pool_field w path d) _ (pool_field_sound w path d s)
      (λ x h. holds_then (Grows IsSoundRoute w.pools.servers) (hash_read (key_step path (codes "hash")) (get (codes "hash") d)) _
      (λ hash. holds_bind (Grows (Each IsShadow shadow_keeps) x.1.pools.servers) (Grows IsSoundRoute w.pools.servers) (shadows_read reader x.1 (key_step path (codes "shadows")) (get (codes "shadows") d)) _
      (shadows_sound x.1 (key_step path (codes "shadows")) (get (codes "shadows") d) h.sound)
      (λ ss k. record {
        holds = (omega (arith, h.holds, k.later.longer), of_shadows ss.1.pools.servers ss.0 k.holds);
        later = later_than w.pools.servers x.1.pools.servers ss.1.pools.servers h.later k.later;
        sound = k.sound;
      })))

  -- ---- two children

  two_sound : (w : SoFar) (path first second : List ℕ) (d : Data) → IsSoFar w → Holds (Grows AreBoth w.pools.servers) (two_under reader w path first second d)
  unfolding two_under
  two_sound w path first second d s =
      holds_bind (Grows IsSoundRoute w.pools.servers) (Grows AreBoth w.pools.servers) (route_under reader w path first d) _ (under_sound w path first d s)
      (λ x h. holds_bind (Grows IsSoundRoute x.1.pools.servers) (Grows AreBoth w.pools.servers) (route_under reader x.1 path second d) _ (under_sound x.1 path second d h.sound)
      (λ y k. record {
        holds = (route_keeps x.1.pools.servers y.1.pools.servers k.later x.0 h.holds, k.holds);
        later = later_than w.pools.servers x.1.pools.servers y.1.pools.servers h.later k.later;
        sound = k.sound;
      }))

  warm_up_sound : (w : SoFar) (path : List ℕ) (d : Data) → IsSoFar w → Holds (Grows IsSoundRoute w.pools.servers) (warm_up_fields reader w path d)
  unfolding warm_up_fields
  warm_up_sound w path d s =
      holds_bind (Grows AreBoth w.pools.servers) (Grows IsSoundRoute w.pools.servers) (two_under reader w path (codes "cold") (codes "warm") d) _ (two_sound w path (codes "cold") (codes "warm") d s)
      (λ x h. holds_then (Grows IsSoundRoute w.pools.servers) (exptime_read path d) _ (λ exptime. record { holds = h.holds; later = h.later; sound = h.sound }))

  migrate_sound : (w : SoFar) (path : List ℕ) (d : Data) → IsSoFar w → Holds (Grows IsSoundRoute w.pools.servers) (migrate_fields reader w path d)
  unfolding migrate_fields
  migrate_sound w path d s =
      holds_bind (Grows AreBoth w.pools.servers) (Grows IsSoundRoute w.pools.servers) (two_under reader w path (codes "from") (codes "to") d) _ (two_sound w path (codes "from") (codes "to") d s)
      (λ x h. holds_then (Grows IsSoundRoute w.pools.servers) (start_read path d) _
      (λ start. holds_then (Grows IsSoundRoute w.pools.servers) (interval_read path d) _ (λ interval. record { holds = h.holds; later = h.later; sound = h.sound })))

  -- ---- selectors

  policy_sound : (w : SoFar) (path name : List ℕ) (d : Data) → IsSoFar w → Holds (Grows IsPolicy w.pools.servers) (policy_read reader w path name d)
  unfolding policy_read
  policy_sound w path name d s =
      holds_bind (Grows IsSoundRoute w.pools.servers) (Grows IsPolicy w.pools.servers) (reader w path d) _ (one w path d s) (λ x h. record { holds = h.holds; later = h.later; sound = h.sound })

  policies_of_members_sound : (k : Selector) (w : SoFar) (path : List ℕ) (o : Option Members) → IsSoFar w → Holds (Grows (Each IsPolicy policy_keeps) w.pools.servers) (policies_of_members k reader w path o)
  policies_of_members_sound k w path None s = tt
  policies_of_members_sound k w path (Some ms) s =
      holds_also (Grows (Each IsPolicy policy_keeps) w.pools.servers) (keys_read (name_fault k) path ms) _ (each_member_grows IsPolicy policy_keeps (policy_read reader) policy_sound w path ms s)

  policies_sound : (k : Selector) (w : SoFar) (path : List ℕ) (o : Option Data) → IsSoFar w → Holds (Grows (Each IsPolicy policy_keeps) w.pools.servers) (policies_read k reader w path o)
  policies_sound k w path None s = none_grow IsPolicy policy_keeps w s
  policies_sound k w path (Some d) s = policies_of_members_sound k w path (as_object d) s

  default_sound : (w : SoFar) (path : List ℕ) (o : Option Data) → IsSoFar w → Holds (Grows IsLast w.pools.servers) (default_read reader w path o)
  default_sound w path None s = still IsLast w None s tt
  default_sound w path (Some d) s =
      holds_bind (Grows IsSoundRoute w.pools.servers) (Grows IsLast w.pools.servers) (reader w path d) _ (one w path d s) (λ x h. record { holds = (h.holds, tt); later = h.later; sound = h.sound })

  selecting_sound : (ps : List (List ℕ)) (k : Selector) (qs : List PrefixValue) (t : Option Named) → AllByRecursion (IsPolicy ps) qs → IsLast ps t → IsSoundRoute ps (selecting k qs t)
  selecting_sound ps selectors.Prefix qs t h l = of_policies ps qs (last_of t) h l
  selecting_sound ps selectors.Operation qs t h l = of_operations ps qs (last_of t) h l

  selector_sound : (k : Selector) (w : SoFar) (path : List ℕ) (d : Data) → IsSoFar w → Holds (Grows IsSoundRoute w.pools.servers) (selector_fields k reader w path d)
  unfolding selector_fields
  selector_sound k w path d s =
      holds_bind (Grows (Each IsPolicy policy_keeps) w.pools.servers) (Grows IsSoundRoute w.pools.servers) (policies_read k reader w (key_step path (policies_key k)) (get (policies_key k) d)) _
      (policies_sound k w (key_step path (policies_key k)) (get (policies_key k) d) s)
      (λ qs h. holds_bind (Grows IsLast qs.1.pools.servers) (Grows IsSoundRoute w.pools.servers) (default_read reader qs.1 (key_step path (default_key k)) (get (default_key k) d)) _
      (default_sound qs.1 (key_step path (default_key k)) (get (default_key k) d) h.sound)
      (λ t l. record {
        holds = selecting_sound t.1.pools.servers k qs.0 t.0 (policies_keep qs.1.pools.servers t.1.pools.servers l.later qs.0 h.holds) l.holds;
        later = later_than w.pools.servers qs.1.pools.servers t.1.pools.servers h.later l.later;
        sound = l.sound;
      }))

  -- ---- objects

  fields_sound : (w : SoFar) (path : List ℕ) (d : Data) (handle : Handle) → IsSoFar w → Holds (Grows IsSoundRoute w.pools.servers) (fields depth reader w path d handle)
  unfolding fields
  fields_sound w path d handles.Pool s = pool_fields_sound w path d s
  fields_sound w path d handles.Null s = still IsSoundRoute w null s tt
  fields_sound w path d handles.Error s = still IsSoundRoute w error s tt
  fields_sound w path d (handles.Many kind) s =
      holds_bind (Grows AreSome w.pools.servers) (Grows IsSoundRoute w.pools.servers) (children_field depth reader w path d) _ (children_field_sound w path d s) (branch_sound w.pools.servers kind)
  fields_sound w path d handles.WarmUp s = warm_up_sound w path d s
  fields_sound w path d handles.Migrate s = migrate_sound w path d s
  fields_sound w path d (handles.Selector k) s = selector_sound k w path d s

  of_type_sound : (w : SoFar) (path : List ℕ) (d : Data) (ms : Members) (r : Read Handle) → IsSoFar w → Holds (Grows IsSoundRoute w.pools.servers) (of_type depth reader w path d ms r)
  of_type_sound w path d ms (good handle) s = holds_also (Grows IsSoundRoute w.pools.servers) (keys_read (key_fault (objects.Handle handle)) path ms) _ (fields_sound w path d handle s)
  of_type_sound w path d ms (bad faults) s = holds_also (Grows IsSoundRoute w.pools.servers) (keys_read stray_fault path ms) (bad faults) tt

  object_sound : (w : SoFar) (path : List ℕ) (d : Data) (ms : Members) → IsSoFar w → Holds (Grows IsSoundRoute w.pools.servers) (object_route depth reader w path d ms)
  unfolding object_route
  object_sound w path d ms s = of_type_sound w path d ms (type_read path d) s

  handle_sound : (w : SoFar) (path : List ℕ) (d : Data) (o : Option (List ℕ)) (ms : Option Members) → IsSoFar w → Holds (Grows IsSoundRoute w.pools.servers) (handle_of depth reader w path d o ms)
  handle_sound w path d (Some text) ms s = text_sound w path text s
  handle_sound w path d None (Some ms) s = object_sound w path d ms s
  handle_sound w path d None None s = tt

in_room_sound : (Q : Named × SoFar → Type 0) (room : ℕ) (path : List ℕ) (r : Read (Named × SoFar)) → Holds Q r → Holds Q (in_room room path r)
in_room_sound Q zero path r h = tt
in_room_sound Q (suc room) path r h = h

pub route_sound : (depth : ℕ) (w : SoFar) (path : List ℕ) (d : Data) → IsSoFar w → Holds (Grows IsSoundRoute w.pools.servers) (route depth w path d)
unfolding route
route_sound zero w path d s = tt
route_sound (suc depth) w path d s =
    in_room_sound (Grows IsSoundRoute w.pools.servers) w.room path _
    (handle_sound depth (route depth) (route_sound depth) (taken 1 w) path d (as_str d) (as_object d) (room_taken 1 w s))
