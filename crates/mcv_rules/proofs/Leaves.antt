-- Each leg is of the pool that is at its position, and goes to its server at the index of its symbol.
use Rattle.std.proofs.Common.{◌≡◌, ◌+◌, ℕ, zero, suc, List, [], ◌∷◌, ◌++◌, Some, refl, sym, ap, ◌∙◌, subst, arith, append_assoc, append-nil}
use Rattle.std.specs.Prelude.{option_and_then, slice_index}
use Rattle.mcv_base.specs.Operation.{is_reading}
use Rattle.mcv_route.specs.Children.{policy_of, prefix_policy, way_of}
use Rattle.mcv_route.specs.Launched.{launched}
use Rattle.mcv_route.specs.Outcomes.{Choice}
use Rattle.mcv_route.specs.Places.{children_of, child_at, tree_at, pool_of, pool_at_position}
use Rattle.mcv_route.specs.Situation.{Situation, under, asked, asynchronous, shadowed, adding}
use Rattle.mcv_route.specs.Tree.{Pool, Tree, Trees, pool, null, error, many, warm_up, migrate, prefix_selector, operation_selector, none, child}
use Rattle.mcv_route.specs.declared.launch.Launch.{Launch}
use Rattle.mcv_rules.specs.Plan.{Leg, Send, Both, OnMiss, OnHit}
use Rattle.mcv_rules.specs.Plans.{leg_of, plan, plan_each}
use Rattle.mcv_rules.specs.Rows.{LegsAreOfPools}
use Rattle.mcv_rules.proofs.EachLeg.{AllLegs, AllLegsEach, all_among, all_chosen, all_many, all_shadows, all_so, all_way, all_when, launches_have}

-- the pool whose leg it is
abbrev pub leaf_of : Leg → Pool
leaf_of l = record { symbol = l.symbol; servers = l.servers }

-- the leg is that of a pool somewhere below the handle at a position
pub record IsOf (t : Tree) (here : List ℕ) (l : Leg) : Type 0 where
  pub rest : List ℕ
  pub position : l.position ≡ here ++ rest
  pub pool_there : pool_at_position t rest ≡ Some (leaf_of l)

of_child : (t u : Tree) (k : ℕ) (here : List ℕ) (l : Leg) → child_at (children_of t) k ≡ Some u → IsOf u (here ++ k ∷ []) l → IsOf t here l
of_child t u k here l e h = record {
  rest = k ∷ h.rest;
  position = h.position ∙ append_assoc here (k ∷ []) h.rest;
  pool_there = ap (λ r. option_and_then pool_of (option_and_then (λ v. tree_at v h.rest) r)) e ∙ h.pool_there;
}

below : (t : Tree) (here : List ℕ) (j : ℕ) (u : Tree) (l : Leg) (n : ℕ) → n ≡ 0 + j → child_at (children_of t) j ≡ Some u → IsOf u (here ++ n ∷ []) l → IsOf t here l
below t here j u l n e f h =
    let same : n ≡ j = omega (arith, e) in
    of_child t u j here l f (subst (λ m. IsOf u (here ++ m ∷ []) l) same h)

mutual
  pub placed : (t : Tree) (s : Situation) → AllLegs (IsOf t s.position) (plan t s)
  placed (pool p ranges targets) s =
      all_shadows (IsOf (pool p ranges targets) s.position) p.symbol 0 (Send (leg_of p s)) ranges (plan_each 0 targets (shadowed s))
      (record { rest = []; position = sym (append-nil s.position); pool_there = refl })
      (placed_each (pool p ranges targets) 0 targets (shadowed s) (below (pool p ranges targets) s.position))
  placed null s = tt
  placed error s = tt
  placed (many kind ts) s =
      all_many (IsOf (many kind ts) s.position) kind ts s
      (placed_each (many kind ts) 0 ts s (below (many kind ts) s.position)) (placed_each (many kind ts) 0 ts (asynchronous s) (below (many kind ts) s.position))
  placed (warm_up cold warm exptime) s =
      let t = warm_up cold warm exptime in
      let first = all_so (IsOf cold (s.position ++ 0 ∷ [])) (IsOf t s.position) (λ l. of_child t cold 0 s.position l refl) (plan cold (under 0 s)) (placed cold (under 0 s)) in
      let second = all_so (IsOf warm (s.position ++ 1 ∷ [])) (IsOf t s.position) (λ l. of_child t warm 1 s.position l refl) (plan warm (under 1 s)) (placed warm (under 1 s)) in
      let filling = all_so (IsOf cold (s.position ++ 2 ∷ [])) (IsOf t s.position) (λ l. of_child t cold 2 s.position l refl) (plan cold (under 2 (adding s))) (placed cold (under 2 (adding s))) in
      all_when (IsOf t s.position) (is_reading s.op) (OnMiss (plan cold (under 0 s)) (OnHit (plan warm (under 1 s)) (plan cold (under 2 (adding s))))) (plan cold (under 0 s)) (λ e. (first, (second, filling))) first
  placed (migrate from to start interval) s =
      let t = migrate from to start interval in
      let first = all_so (IsOf from (s.position ++ 0 ∷ [])) (IsOf t s.position) (λ l. of_child t from 0 s.position l refl) (plan from (under 0 s)) (placed from (under 0 s)) in
      let second = all_so (IsOf to (s.position ++ 1 ∷ [])) (IsOf t s.position) (λ l. of_child t to 1 s.position l refl) (plan to (under 1 s)) (placed to (under 1 s)) in
      all_way (IsOf t s.position) (way_of s start interval) (plan from (under 0 s)) (plan to (under 1 s)) (Both (plan from (under 0 s)) (plan to (under 1 s))) first second (first, second)
  placed (prefix_selector prefixes ts) s =
      all_chosen (IsOf (prefix_selector prefixes ts) s.position) 0 (prefix_policy s.rest prefixes) (plan_each 0 ts s) (placed_each (prefix_selector prefixes ts) 0 ts s (below (prefix_selector prefixes ts) s.position))
  placed (operation_selector ops ts) s =
      all_chosen (IsOf (operation_selector ops ts) s.position) 0 (policy_of s.op ops) (plan_each 0 ts s) (placed_each (operation_selector ops ts) 0 ts s (below (operation_selector ops ts) s.position))

  -- those of each child of a handle, the first of which has number k
  placed_each : (parent : Tree) (k : ℕ) (ts : Trees) (s : Situation)
      → ((j : ℕ) (u : Tree) (l : Leg) (n : ℕ) → n ≡ k + j → child_at ts j ≡ Some u → IsOf u (s.position ++ n ∷ []) l → IsOf parent s.position l) → AllLegsEach (IsOf parent s.position) k (plan_each k ts s)
  placed_each parent k none s h = tt
  placed_each parent k (child u ts) s h = (
    all_so (IsOf u (s.position ++ k ∷ [])) (IsOf parent s.position) (λ l. h zero u l k (omega arith) refl) (plan u (under k s)) (placed u (under k s)),
    placed_each parent (suc k) ts s (λ j v l n e. h (suc j) v l n (omega (arith, e))),
  )

pub pool_at : (t : Tree) (l : Leg) → IsOf t [] l → pool_at_position t l.position ≡ Some (leaf_of l)
pool_at t l h = ap (pool_at_position t) h.position ∙ h.pool_there

-- the leg is that of the pool at its position
abbrev IsLegThere : Tree → Choice → Launch → Type 0
IsLegThere t c l = (p : Pool) × (pool_at_position t l.position ≡ Some p) × (l.server.0 ≡ slice_index p.servers (c p.symbol))

pub legs_are_of_pools : LegsAreOfPools
legs_are_of_pools t op rest since c o l h =
    all_among (IsLegThere t c) (launched t (asked op rest since) c o) l
    (launches_have (IsOf t []) (IsLegThere t c) t (asked op rest since) c o (λ k g. (leaf_of k, pool_at t k g, refl)) (placed t (asked op rest since))) h
