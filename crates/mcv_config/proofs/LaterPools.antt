-- Pools that come behind others leave them as they were, and what names the others stays sound.
use Rattle.std.proofs.Common.{◌≡◌, ℕ, zero, suc, ◌+◌, ◌<◌, ◌≤◌, List, [], ◌∷◌, ◌++◌, length, get_or, refl, sym, subst, ◌∙◌, arith, length-append}
use Rattle.std.specs.List.{AllByRecursion}
use Rattle.serde_json.specs.Data.{Data, Members, no_members, member}
use Rattle.mcv_names.specs.Fault.{Read}
use Rattle.mcv_names.specs.Lists.{each, each_member}
use Rattle.mcv_names.specs.Path.{key_step, item_step}
use Rattle.mcv_config.specs.ConfigValue.{Named, Nameds, no_named, named, pool, server, null, error, many, warm_up, migrate, prefix_selector, operation_selector, IsSoundRoute, AreSoundRoutes}
use Rattle.mcv_config.specs.Pools.{Table}
use Rattle.mcv_config.specs.Walk.{SoFar, with_pool}
use Rattle.mcv_names.proofs.ReadFacts.{Holds, holds_bind}
use Rattle.mcv_config.proofs.SoundPools.{Grown, IsPool, IsTable, pool_keeps}

-- the later pools begin with the former ones
pub record Later (ps qs : List (List ℕ)) : Type 0 where
  pub longer : length ps ≤ length qs
  pub same : (i : ℕ) → i < length ps → get_or qs i [] ≡ get_or ps i []

pub later_same : (ps : List (List ℕ)) → Later ps ps
later_same ps = record { longer = omega arith; same = λ i l. refl }

pub later_than : (ps qs rs : List (List ℕ)) → Later ps qs → Later qs rs → Later ps rs
later_than ps qs rs h k = record { longer = omega (arith, h.longer, k.longer); same = λ i l. k.same i (omega (arith, h.longer)) ∙ h.same i l }

same_before : (ps : List (List ℕ)) (p : List ℕ) (i : ℕ) → i < length ps → get_or (ps ++ p ∷ []) i [] ≡ get_or ps i []
same_before [] p i l = absurd (omega arith)
same_before (q ∷ ps) p zero l = refl
same_before (q ∷ ps) p (suc i) l = same_before ps p i (omega arith)

pub later_more : (ps : List (List ℕ)) (p : List ℕ) → Later ps (ps ++ p ∷ [])
later_more ps p = record { longer = omega (arith, length-append ps (p ∷ [])); same = same_before ps p }

-- ---- routes stay sound

mutual
  pub route_keeps : (ps qs : List (List ℕ)) → Later ps qs → (t : Named) → IsSoundRoute ps t → IsSoundRoute qs t
  route_keeps ps qs l (pool i func salt ranges ts) h = (omega (arith, h.0, l.longer), routes_keep ps qs l ts h.1)
  route_keeps ps qs l (server i k) h = (omega (arith, h.0, l.longer), subst (λ (p : List ℕ). k < length p) (sym (l.same i h.0)) h.1)
  route_keeps ps qs l null h = tt
  route_keeps ps qs l error h = tt
  route_keeps ps qs l (many kind ts) h = (h.0, routes_keep ps qs l ts h.1)
  route_keeps ps qs l (warm_up cold warm exptime) h = (route_keeps ps qs l cold h.0, route_keeps ps qs l warm h.1)
  route_keeps ps qs l (migrate from to start interval) h = (route_keeps ps qs l from h.0, route_keeps ps qs l to h.1)
  route_keeps ps qs l (prefix_selector prefixes ts) h = routes_keep ps qs l ts h
  route_keeps ps qs l (operation_selector ops ts) h = routes_keep ps qs l ts h

  pub routes_keep : (ps qs : List (List ℕ)) → Later ps qs → (ts : Nameds) → AreSoundRoutes ps ts → AreSoundRoutes qs ts
  routes_keep ps qs l no_named h = tt
  routes_keep ps qs l (named t ts) h = (route_keeps ps qs l t h.0, routes_keep ps qs l ts h.1)

-- ---- what is so far

-- every name has its pool, every pool its servers, and the table of servers is one
pub record IsSoFar (w : SoFar) : Type 0 where
  pub fits : length w.pools.names ≤ length w.pools.servers
  pub pools : AllByRecursion (IsPool w.table) w.pools.servers
  pub is_table : IsTable w.table

-- P of what was read under the pools that it leaves, which begin with the former ones
pub record Grows {A : Type 0} (P : List (List ℕ) → A → Type 0) (ps : List (List ℕ)) (x : A × SoFar) : Type 0 where
  pub holds : P x.1.pools.servers x.0
  pub later : Later ps x.1.pools.servers
  pub sound : IsSoFar x.1

pub still : {A : Type 0} (P : List (List ℕ) → A → Type 0) (w : SoFar) (x : A) → IsSoFar w → P w.pools.servers x → Grows P w.pools.servers (x, w)
still P w x s h = record { holds = h; later = later_same w.pools.servers; sound = s }

pools_keep : (t u : Table) (ps : List (List ℕ)) → length t ≤ length u → AllByRecursion (IsPool t) ps → AllByRecursion (IsPool u) ps
pools_keep t u [] l h = tt
pools_keep t u (p ∷ ps) l h = (pool_keeps t u p l h.0, pools_keep t u ps l h.1)

pools_more : (t : Table) (ps : List (List ℕ)) (p : List ℕ) → AllByRecursion (IsPool t) ps → IsPool t p → AllByRecursion (IsPool t) (ps ++ p ∷ [])
pools_more t [] p h k = (k, tt)
pools_more t (q ∷ ps) p h k = (h.0, pools_more t ps p h.1 k)

-- a pool behind the others
pub pool_behind : (w : SoFar) (x : List ℕ × Table) → IsSoFar w → Grown IsPool w.table x → IsSoFar (with_pool x.0 x.1 w)
pool_behind w x s h = record {
  fits = omega (arith, s.fits, length-append w.pools.servers (x.0 ∷ []));
  pools = pools_more x.1 w.pools.servers x.0 (pools_keep w.table x.1 w.pools.servers h.grows s.pools) h.holds;
  is_table = h.is_table;
}

-- ---- each in turn

module _ {A : Type 0} (P : List (List ℕ) → A → Type 0) (keeps : (ps qs : List (List ℕ)) → Later ps qs → (x : A) → P ps x → P qs x) where
  abbrev pub Each : List (List ℕ) → List A → Type 0
  Each ps xs = AllByRecursion (P ps) xs

  pub none_grow : (w : SoFar) → IsSoFar w → Grows Each w.pools.servers ([], w)
  none_grow w s = record { holds = tt; later = later_same w.pools.servers; sound = s }

  pub more_grow : (ps : List (List ℕ)) (x : A × SoFar) (xs : List A × SoFar) → Grows P ps x → Grows Each x.1.pools.servers xs → Grows Each ps (x.0 ∷ xs.0, xs.1)
  more_grow ps x xs h k = record {
    holds = (keeps x.1.pools.servers xs.1.pools.servers k.later x.0 h.holds, k.holds);
    later = later_than ps x.1.pools.servers xs.1.pools.servers h.later k.later;
    sound = k.sound;
  }

  pub each_grows : (reader : SoFar → List ℕ → Data → Read (A × SoFar)) → ((w : SoFar) (p : List ℕ) (d : Data) → IsSoFar w → Holds (Grows P w.pools.servers) (reader w p d))
      → (w : SoFar) (path : List ℕ) (i : ℕ) (ds : List Data) → IsSoFar w → Holds (Grows Each w.pools.servers) (each reader w path i ds)
  unfolding each
  each_grows reader one w path i [] s = none_grow w s
  each_grows reader one w path i (d ∷ ds) s =
      holds_bind (Grows P w.pools.servers) (Grows Each w.pools.servers) (reader w (item_step path i) d) _ (one w (item_step path i) d s)
      (λ x h. holds_bind (Grows Each x.1.pools.servers) (Grows Each w.pools.servers) (each reader x.1 path (i + 1) ds) _ (each_grows reader one x.1 path (i + 1) ds h.sound)
      (λ xs k. more_grow w.pools.servers x xs h k))

  pub each_member_grows : (reader : SoFar → List ℕ → List ℕ → Data → Read (A × SoFar)) → ((w : SoFar) (p name : List ℕ) (d : Data) → IsSoFar w → Holds (Grows P w.pools.servers) (reader w p name d))
      → (w : SoFar) (path : List ℕ) (ms : Members) → IsSoFar w → Holds (Grows Each w.pools.servers) (each_member reader w path ms)
  unfolding each_member
  each_member_grows reader one w path no_members s = none_grow w s
  each_member_grows reader one w path (member name d ms) s =
      holds_bind (Grows P w.pools.servers) (Grows Each w.pools.servers) (reader w (key_step path name) name d) _ (one w (key_step path name) name d s)
      (λ x h. holds_bind (Grows Each x.1.pools.servers) (Grows Each w.pools.servers) (each_member reader x.1 path ms) _ (each_member_grows reader one x.1 path ms h.sound)
      (λ xs k. more_grow w.pools.servers x xs h k))
