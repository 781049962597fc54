-- The legs of a handle are those of its children together.
use Rattle.std.proofs.Common.{◌≡◌, ◌<◌, ◌≤◌, ◌+◌, ◌^◌, ◌-◌, ℕ, suc, true, false, List, [], ◌∷◌, ◌++◌, length, map, take, get_or, Vec, Box, Global, Option, Some, None, refl, sym, ap, ◌∙◌, subst, arith, add-one, append-nil, append_assoc, length-append}
use Rattle.std.specs.Prelude.{min}
use Rattle.std.proofs.Math.Nat.{add-zero}
use Rattle.std.proofs.Math.Seq.{take-suc}
use Rattle.std.proofs.lemmas.List.{length-take-le, length-map, map-append}
use Rattle.mcv_base.specs.declared.reply.Outcome.TheVariants.{Soft}
use Rattle.mcv_base.specs.Operation.{is_reading}
use Rattle.mcv_route.specs.Children.{joined, policy_of, prefix_policy, to_both, way_of}
use Rattle.mcv_route.specs.Outcomes.{Choice}
use Rattle.mcv_route.specs.Situation.{Situation, adding, asynchronous, shadowed, under}
use Rattle.mcv_route.specs.Tree.{Pool, Range, Tree, Trees, many, AllSync, AllInitial, AllAsync, Failover, MissFailover, child, error, migrate, pool, warm_up}
use Rattle.mcv_route.specs.View.{last_view, operation_view, prefix_view, shadow_view, trees_of, view}
use Rattle.mcv_route.specs.declared.tree.OperationPolicy.{OperationPolicy, out-OperationPolicy}
use Rattle.mcv_route.specs.declared.tree.PrefixPolicy.{PrefixPolicy, out-PrefixPolicy}
use Rattle.mcv_route.specs.declared.tree.Route.{OperationSelector, PrefixSelector, Route}
use Rattle.mcv_route.specs.declared.tree.Shadow.{Shadow}
use Rattle.mcv_route.proofs.Views.{operation_view-out, prefix_view-out, view-OperationSelector, view-PrefixSelector}
use Rattle.mcv_rules.specs.PlanInMemory.{Serves, children_of, operations_of, prefixes_of, ranges_of, targets_of}
use Rattle.mcv_rules.specs.Places.{places_of}
use Rattle.mcv_rules.specs.Plan as planned
use Rattle.mcv_rules.specs.Plans.{leg_of, plan, plan_each, with_shadows}
use Rattle.mcv_rules.specs.Soundness.{positions}
use Rattle.mcv_rules.specs.declared.plan.Plan.{Plan}
use Rattle.mcv_rules.proofs.BesidePlans.{first_of}
use Rattle.mcv_rules.proofs.ChoosingHandles.{Chooses, does_child, does_error, last_at, length-prefixes, length-routes, miss_chooses, operation_chooses, policy_at, policy_of-le, prefix_chooses, prefix_policy-le, routes_before}
use Rattle.mcv_rules.proofs.Serving.{Does, positions-fold, positions-together}
use Rattle.mcv_plan.specs.CourseOfPlan as sublists
use Rattle.mcv_plan.specs.CourseOfPlan.{IsSublist}
use Rattle.mcv_plan.specs.Counts.{capped, legs_each, legs_in}
use Rattle.mcv_plan.specs.Entries.{legs_of}

-- ---- caps

sum_within : (cap n m : ℕ) → min (min n cap + min m cap) cap ≡ min (n + m) cap
sum_within cap n m = omega arith

pub capped_more : (a b n m : ℕ) → a ≡ capped n → b ≡ capped m → min (a + b) (2 ^ 64 - 1) ≡ capped (n + m)
capped_more a b n m e f = rw (e, f) (sum_within (2 ^ 64 - 1) n m)

pub counts_as : (t u : Tree) (s v : Situation) (n : ℕ) → Does t s u v → n ≡ capped (legs_in u v) → n ≡ capped (legs_in t s)
counts_as t u s v n d e = e ∙ ap (λ p. capped (length (positions p))) (sym d.whole)

-- ---- handles of several children

pub all_sync_count : (ts : Trees) (s : Situation) → legs_in (many AllSync ts) s ≡ legs_each 0 ts s
all_sync_count ts s = ap length (positions-together planned.Both (λ t u. refl) (plan_each 0 ts s))

pub failover_count : (ts : Trees) (s : Situation) → legs_in (many Failover ts) s ≡ legs_each 0 ts s
failover_count ts s = ap length (positions-together planned.OnError (λ t u. refl) (plan_each 0 ts s))

pub miss_count : (ts : Trees) (s : Situation) → is_reading s.op ≡ true → legs_in (many MissFailover ts) s ≡ legs_each 0 ts s
miss_count ts s h = rw h (ap length (positions-together planned.OnMiss (λ t u. refl) (plan_each 0 ts s)))

pub all_async_count : (ts : Trees) (s : Situation) → legs_in (many AllAsync ts) s ≡ legs_each 0 ts (asynchronous s)
all_async_count ts s = ap length (positions-fold planned.Beside (λ t u. refl) (planned.Reply Soft) (plan_each 0 ts (asynchronous s)))

pub all_initial_count : (t : Tree) (ts : Trees) (s : Situation) → legs_in (many AllInitial (child t ts)) s ≡ legs_in t (under 0 s) + legs_each 1 ts (asynchronous s)
all_initial_count t ts s =
    ap length (positions-fold planned.Beside (λ t u. refl) (plan t (under 0 s)) (plan_each 1 ts (asynchronous s)))
    ∙ length-append (positions (plan t (under 0 s))) (joined (map positions (plan_each 1 ts (asynchronous s))))

pub warm_up_count : (cold warm : Tree) (exptime : ℕ) (s : Situation) → is_reading s.op ≡ true
    → legs_in (warm_up cold warm exptime) s ≡ (legs_in cold (under 0 s) + legs_in warm (under 1 s)) + legs_in cold (under 2 (adding s))
warm_up_count cold warm exptime s h =
    let first = positions (plan cold (under 0 s)) in
    let second = positions (plan warm (under 1 s)) in
    let third = positions (plan cold (under 2 (adding s))) in
    rw h (sums (length first) (length second) (length third) (length (second ++ third)) (length (first ++ (second ++ third))) (length-append first (second ++ third)) (length-append second third))
  where
    sums : (a b c d e : ℕ) → e ≡ a + d → d ≡ b + c → e ≡ (a + b) + c
    sums a b c d e f g = omega (arith, f, g)

pub migrate_both_count : (from to : Tree) (start interval : ℕ) (s : Situation) → way_of s start interval ≡ to_both → legs_in (migrate from to start interval) s ≡ legs_in from (under 0 s) + legs_in to (under 1 s)
migrate_both_count from to start interval s w = rw w (length-append (positions (plan from (under 0 s))) (positions (plan to (under 1 s))))

-- ---- children one by one

each_more : (k n : ℕ) (ts : List Tree) (t : Tree) (s : Situation) → n ≡ k + length ts → legs_each k (trees_of (ts ++ t ∷ [])) s ≡ legs_each k (trees_of ts) s + legs_in t (under n s)
each_more k n [] t s e =
    let same : n ≡ k = omega (arith, e) in
    rw same (alone (legs_in t (under k s)) (length (positions (plan t (under k s)) ++ [])) (length-append (positions (plan t (under k s))) []))
  where
    alone : (a b : ℕ) → b ≡ a + 0 → b ≡ 0 + a
    alone a b f = omega (arith, f)
each_more k n (u ∷ ts) t s e =
    let here = positions (plan u (under k s)) in
    let old = joined (map positions (plan_each (suc k) (trees_of ts) s)) in
    let new = joined (map positions (plan_each (suc k) (trees_of (ts ++ t ∷ [])) s)) in
    behind (length here) (length old) (length new) (legs_in t (under n s)) (length (here ++ old)) (length (here ++ new)) (length-append here old) (length-append here new) (each_more (suc k) n ts t s (omega (arith, e)))
  where
    behind : (a b c d x y : ℕ) → x ≡ a + b → y ≡ a + c → c ≡ b + d → y ≡ x + d
    behind a b c d x y f g h = omega (arith, f, g, h)

pub next_child : (k m : ℕ) (routes : List Route) (i : ℕ) (route : Route) (s : Situation) → i < length routes → route ≡ get_or routes i route → m ≡ k + i
    → legs_each k (children_of (take (i + 1) routes)) s ≡ legs_each k (children_of (take i routes)) s + legs_in (view route) (under m s)
next_child k m routes i route s h is e =
    let count : length (map view (take i routes)) ≡ i = length-map (take i routes) view ∙ length-take-le i routes (omega (arith, h)) in
    rw (add-one i, take-suc routes i route h, ← is, map-append view (take i routes) (route ∷ []))
    (each_more k m (map view (take i routes)) (view route) s (omega (arith, count, e)))

pub next_target : (shadows : List Shadow) (i : ℕ) (x : Shadow) (s : Situation) → i < length shadows → x ≡ get_or shadows i x
    → legs_each 0 (targets_of (take (i + 1) shadows)) s ≡ legs_each 0 (targets_of (take i shadows)) s + legs_in (shadow_view x).1 (under i s)
next_target shadows i x s h is =
    let seen = map shadow_view (take i shadows) in
    let count : length (map (λ y. y.1) seen) ≡ i = length-map seen (λ y. y.1) ∙ length-map (take i shadows) shadow_view ∙ length-take-le i shadows (omega (arith, h)) in
    rw (add-one i, take-suc shadows i x h, ← is, map-append shadow_view (take i shadows) (x ∷ []), map-append (λ y. y.1) seen (shadow_view x ∷ []))
    (each_more 0 i (map (λ y. y.1) seen) (shadow_view x).1 s (omega (arith, count)))

-- one child more
pub children_more : (routes : List Route) (i : ℕ) (route : Route) (s : Situation) (total more : ℕ) → i < length routes → route ≡ get_or routes i route
    → more ≡ capped (legs_in (view route) (under i s)) → total ≡ capped (legs_each 0 (children_of (take i routes)) s) → min (total + more) (2 ^ 64 - 1) ≡ capped (legs_each 0 (children_of (take (i + 1) routes)) s)
children_more routes i route s total more h is f e =
    capped_more total more (legs_each 0 (children_of (take i routes)) s) (legs_in (view route) (under i s)) e f
    ∙ ap capped (sym (next_child 0 i routes i route s h is (omega arith)))

-- ---- the first, and the others, for which no one waits

-- the first child's legs, and those of the others so far
abbrev pub initial_so_far : List Route → List Route → Situation → ℕ
initial_so_far routes others s = legs_in (first_of (map view routes)) (under 0 s) + legs_each 1 (children_of others) (asynchronous s)

pub initial_first : (routes : List Route) (first : Route) (others : List Route) (s : Situation) (total : ℕ) → routes ≡ first ∷ others
    → total ≡ capped (legs_in (view first) (under 0 s)) → total ≡ capped (initial_so_far routes (take 0 others) s)
initial_first routes first others s total is e = rw is (e ∙ ap capped (sym (add-zero (legs_in (view first) (under 0 s)))))

pub initial_more : (routes others : List Route) (i : ℕ) (route : Route) (s : Situation) (total more : ℕ) → i < length others → route ≡ get_or others i route
    → more ≡ capped (legs_in (view route) (under (i + 1) (asynchronous s))) → total ≡ capped (initial_so_far routes (take i others) s) → min (total + more) (2 ^ 64 - 1) ≡ capped (initial_so_far routes (take (i + 1) others) s)
initial_more routes others i route s total more h is f e =
    let first = legs_in (first_of (map view routes)) (under 0 s) in
    let old = legs_each 1 (children_of (take i others)) (asynchronous s) in
    let new = legs_each 1 (children_of (take (i + 1) others)) (asynchronous s) in
    let one = legs_in (view route) (under (i + 1) (asynchronous s)) in
    capped_more total more (first + old) one e f
    ∙ ap capped (moved first old one new (next_child 1 (i + 1) others i route (asynchronous s) h is (omega arith)))
  where
    moved : (a b c d : ℕ) → d ≡ b + c → (a + b) + c ≡ a + d
    moved a b c d f = omega (arith, f)

pub initial_all : (routes : List Route) (first : Route) (others : List Route) (s : Situation) (total : ℕ) → routes ≡ first ∷ others
    → total ≡ capped (initial_so_far routes others s) → total ≡ capped (legs_in (many AllInitial (children_of routes)) s)
initial_all routes first others s total is e = e ∙ rw is (ap capped (sym (all_initial_count (view first) (children_of others) s)))

pub no_initial : (routes : List Route) (s : Situation) → length routes ≡ 0 → 0 ≡ capped (legs_in (many AllInitial (children_of routes)) s)
no_initial [] s n = refl
no_initial (r ∷ routes) s n = absurd (omega (arith, n))

-- ---- a search for what doesn't read

pub first_child_count : (routes : List Route) (first : Route) (s : Situation) (n : ℕ) → is_reading s.op ≡ false → 0 < length routes → first ≡ get_or routes 0 first
    → n ≡ capped (legs_in (view first) (under 0 s)) → n ≡ capped (legs_in (many MissFailover (children_of routes)) s)
first_child_count [] first s n h m is f = absurd (omega (arith, m))
first_child_count (r ∷ routes) first s n h m is f =
    counts_as (many MissFailover (children_of (r ∷ routes))) (view r) s (under 0 s) n
    (does_child 0 (many MissFailover (children_of (r ∷ routes))) (map view (r ∷ routes)) s (view r) (miss_chooses (children_of (r ∷ routes)) s h) (omega arith) refl)
    (subst (λ x. n ≡ capped (legs_in (view x) (under 0 s))) is f)

pub no_child_count : (routes : List Route) (s : Situation) → is_reading s.op ≡ false → length routes ≡ 0 → 0 ≡ capped (legs_in (many MissFailover (children_of routes)) s)
no_child_count [] s h n = rw h refl
no_child_count (r ∷ routes) s h n = absurd (omega (arith, n))

-- ---- a pool with shadows

shadow_places : (symbol k : ℕ) (t : planned.Plan) (shadows : List (Range × Tree)) (s : Situation)
    → positions (with_shadows symbol t (map (λ x. x.0) shadows) (plan_each k (trees_of (map (λ x. x.1) shadows)) s)) ≡ positions t ++ joined (map positions (plan_each k (trees_of (map (λ x. x.1) shadows)) s))
shadow_places symbol k t [] s = sym (append-nil (positions t))
shadow_places symbol k t (x ∷ shadows) s =
    shadow_places symbol (suc k) (planned.Shadowed symbol x.0.first x.0.last t (plan x.1 (under k s))) shadows s
    ∙ append_assoc (positions t) (positions (plan x.1 (under k s))) (joined (map positions (plan_each (suc k) (trees_of (map (λ x. x.1) shadows)) s)))

-- its own leg, and those of the targets so far
pub pool_more : (shadows : List Shadow) (i : ℕ) (x : Shadow) (s : Situation) (total more : ℕ) → i < length shadows → x ≡ get_or shadows i x
    → more ≡ capped (legs_in (shadow_view x).1 (under i s)) → total ≡ capped (suc (legs_each 0 (targets_of (take i shadows)) s)) → min (total + more) (2 ^ 64 - 1) ≡ capped (suc (legs_each 0 (targets_of (take (i + 1) shadows)) s))
pool_more shadows i x s total more h is f e =
    capped_more total more (suc (legs_each 0 (targets_of (take i shadows)) s)) (legs_in (shadow_view x).1 (under i s)) e f
    ∙ ap capped (moved (legs_each 0 (targets_of (take i shadows)) s) (legs_in (shadow_view x).1 (under i s)) (legs_each 0 (targets_of (take (i + 1) shadows)) s) (next_target shadows i x s h is))
  where
    moved : (a b c : ℕ) → c ≡ a + b → suc a + b ≡ suc c
    moved a b c f = omega (arith, f)

pub pool_count : (q : Pool) (shadows : List Shadow) (s : Situation) (n : ℕ) → n ≡ capped (suc (legs_each 0 (targets_of shadows) (shadowed s))) → n ≡ capped (legs_in (pool q (ranges_of shadows) (targets_of shadows)) s)
pool_count q shadows s n e = e ∙ ap (λ ps. capped (length ps)) (sym (shadow_places q.symbol 0 (planned.Send (leg_of q s)) (map shadow_view shadows) (shadowed s)))

-- ---- the chosen policy

module _ {A P : Type 0} (g : P → A × Tree) where
  chosen_count : (u : Tree) (policies : List P) (more : List Tree) (n : ℕ) (policy : P) (s : Situation) (m : ℕ) → Chooses n u (trees_of (routes_before g policies more)) s → n < length policies → policy ≡ get_or policies n policy
      → m ≡ capped (legs_in (g policy).1 (under n s)) → m ≡ capped (legs_in u s)
  chosen_count u policies more n policy s m d h is f =
      counts_as u (g policy).1 s (under n s) m
      (does_child n u (routes_before g policies more) s (g policy).1 d (omega (arith, h, length-routes g policies more)) (policy_at g policies more n policy h is)) f

  last_count : (u : Tree) (policies : List P) (t : Tree) (n : ℕ) (s : Situation) (m : ℕ) → Chooses n u (trees_of (routes_before g policies (t ∷ []))) s → n ≡ length policies
      → m ≡ capped (legs_in t (under n s)) → m ≡ capped (legs_in u s)
  last_count u policies t n s m d last f =
      counts_as u t s (under n s) m
      (does_child n u (routes_before g policies (t ∷ [])) s t d (omega (arith, last, length-routes g policies (t ∷ []))) (rw last (last_at g policies t))) f

  no_last_count : (u : Tree) (policies : List P) (n : ℕ) (s : Situation) → Chooses n u (trees_of (routes_before g policies [])) s → length policies ≤ n → 0 ≡ capped (legs_in u s)
  no_last_count u policies n s d h = counts_as u error s s 0 (does_error n u (routes_before g policies []) s d (omega (arith, h, length-routes g policies []))) refl

pub operation_count : (policies : Vec OperationPolicy Global) (default : Option (Box Route Global)) (n : ℕ) (policy : OperationPolicy) (s : Situation) (m : ℕ) → n ≡ policy_of s.op (operations_of policies.items) → n < length policies.items → policy ≡ get_or policies.items n policy
    → m ≡ capped (legs_in (view (out-OperationPolicy policy).route) (under n s)) → m ≡ capped (legs_in (view (OperationSelector policies default)) s)
operation_count policies default n policy s m e h is f =
    rw (view-OperationSelector policies default)
    (chosen_count operation_view _ policies.items (last_view default) n policy s m (operation_chooses (operations_of policies.items) _ s n e) h is (rw (operation_view-out policy) f))

pub default_count : (policies : Vec OperationPolicy Global) (route : Box Route Global) (n : ℕ) (s : Situation) (m : ℕ) → n ≡ policy_of s.op (operations_of policies.items) → length policies.items ≤ n
    → m ≡ capped (legs_in (view route.value) (under n s)) → m ≡ capped (legs_in (view (OperationSelector policies (Some route))) s)
default_count policies route n s m e h f =
    rw (view-OperationSelector policies (Some route))
    (last_count operation_view _ policies.items (view route.value) n s m (operation_chooses (operations_of policies.items) _ s n e) (omega (arith, e, h, policy_of-le s.op policies.items)) f)

pub no_default_count : (policies : Vec OperationPolicy Global) (n : ℕ) (s : Situation) → n ≡ policy_of s.op (operations_of policies.items) → length policies.items ≤ n → 0 ≡ capped (legs_in (view (OperationSelector policies None)) s)
no_default_count policies n s e h =
    rw (view-OperationSelector policies None)
    (no_last_count operation_view _ policies.items n s (operation_chooses (operations_of policies.items) _ s n e) h)

pub prefix_count : (policies : Vec PrefixPolicy Global) (wildcard : Option (Box Route Global)) (n : ℕ) (policy : PrefixPolicy) (s : Situation) (m : ℕ) → n ≡ prefix_policy s.rest (prefixes_of policies.items) → n < length policies.items → policy ≡ get_or policies.items n policy
    → m ≡ capped (legs_in (view (out-PrefixPolicy policy).route) (under n s)) → m ≡ capped (legs_in (view (PrefixSelector policies wildcard)) s)
prefix_count policies wildcard n policy s m e h is f =
    rw (view-PrefixSelector policies wildcard)
    (chosen_count prefix_view _ policies.items (last_view wildcard) n policy s m (prefix_chooses (prefixes_of policies.items) _ s n e) h is (rw (prefix_view-out policy) f))

pub wildcard_count : (policies : Vec PrefixPolicy Global) (route : Box Route Global) (n : ℕ) (s : Situation) (m : ℕ) → n ≡ prefix_policy s.rest (prefixes_of policies.items) → length policies.items ≤ n
    → m ≡ capped (legs_in (view route.value) (under n s)) → m ≡ capped (legs_in (view (PrefixSelector policies (Some route))) s)
wildcard_count policies route n s m e h f =
    rw (view-PrefixSelector policies (Some route))
    (last_count prefix_view _ policies.items (view route.value) n s m (prefix_chooses (prefixes_of policies.items) _ s n e)
    (omega (arith, e, h, prefix_policy-le s.rest (prefixes_of policies.items), length-prefixes policies.items)) f)

pub no_wildcard_count : (policies : Vec PrefixPolicy Global) (n : ℕ) (s : Situation) → n ≡ prefix_policy s.rest (prefixes_of policies.items) → length policies.items ≤ n → 0 ≡ capped (legs_in (view (PrefixSelector policies None)) s)
no_wildcard_count policies n s e h =
    rw (view-PrefixSelector policies None)
    (no_last_count prefix_view _ policies.items n s (prefix_chooses (prefixes_of policies.items) _ s n e) h)

-- ---- under a choice

sublist_count : (ps qs : List (List ℕ)) → IsSublist ps qs → length ps ≤ length qs
sublist_count ps qs sublists.done = omega arith
sublist_count ps qs (sublists.kept p x y f) = omega (arith, sublist_count x y f)
sublist_count ps qs (sublists.left_out q x y f) = omega (arith, sublist_count x y f)

-- never more than the route has
pub choice_bounded : (p : Plan) (t : Tree) (s : Situation) (c : Choice) → Serves p t s → IsSublist (map (λ l. l.position) (legs_of c p)) (places_of p) → length (legs_of c p) ≤ legs_in t s
choice_bounded p t s c serves f =
    omega (arith, sublist_count (map (λ l. l.position) (legs_of c p)) (places_of p) f, length-map (legs_of c p) (λ l. l.position), ap length serves.places)
