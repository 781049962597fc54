-- The handles that do what one of their children does, or what another handle does: selectors and migrations.
use Rattle.std.proofs.Common.{◌≡◌, ◌<◌, ◌≤◌, ◌+◌, Box, cond, ℕ, zero, suc, Bool, true, false, List, [], ◌∷◌, ◌++◌, length, map, get_or, nat_le, unwrap_or, option_map, Vec, Global, Option, Some, None, refl, sym, ap, ◌∙◌, subst, arith, append-nil, add-one, drop, drop-cons}
use Rattle.mcv_base.specs.declared.operation.Op.{Op}
use Rattle.mcv_base.specs.declared.reply.FixedReply.TheVariants.{ErrorRoute}
use Rattle.mcv_base.specs.Key.{begins_with}
use Rattle.mcv_base.specs.Operation.{is_reading}
use Rattle.mcv_route.specs.Outcomes.{Outcomes, Choice, History}
use Rattle.mcv_route.specs.Tree.{Tree, Trees, error, many, AllSync, AllInitial, MissFailover, warm_up, migrate, prefix_selector, operation_selector, none}
use Rattle.mcv_route.specs.Situation.{Situation, under}
use Rattle.mcv_route.specs.Children.{child_or, policy_of, prefix_policy, is_policy_for, longest_from, way_of, to_from, to_to, to_both}
use Rattle.mcv_route.specs.Replies as replies
use Rattle.mcv_route.specs.Replies.{refused, replies_each}
use Rattle.mcv_route.specs.Launched.{launched, launched_each}
use Rattle.mcv_route.specs.Reply as definition
use Rattle.mcv_route.specs.Reply.{reply, arrivals, answers_of}
use Rattle.mcv_route.specs.declared.tree.Route.{Route, PrefixSelector, OperationSelector}
use Rattle.mcv_route.specs.declared.tree.PrefixPolicy.{PrefixPolicy, out-PrefixPolicy}
use Rattle.mcv_route.specs.declared.tree.OperationPolicy.{OperationPolicy, out-OperationPolicy}
use Rattle.mcv_route.specs.View.{view, prefix_view, operation_view, trees_of, last_view}
use Rattle.mcv_route.proofs.Views.{prefix_view-out, operation_view-out, view-PrefixSelector, view-OperationSelector}
use Rattle.mcv_base.specs.declared.reply.Outcome.TheVariants.{Error}
use Rattle.mcv_rules.specs.Plan as planned
use Rattle.mcv_rules.specs.Plans as normal
use Rattle.mcv_rules.specs.PlanInMemory.{longer_of, operations_of, prefixes_of, Serves}
use Rattle.mcv_rules.specs.declared.plan.Plan.{Plan, Reply}
use Rattle.mcv_rules.proofs.Serving.{Does, serves-does, serves-error}

-- ---- the chosen child

-- what each child does, the first of which has number k
abbrev each : {A : Type 0} → (Tree → Situation → A) → ℕ → List Tree → Situation → List A
each f k [] s = []
each f k (t ∷ ts) s = f t (under k s) ∷ each f (suc k) ts s

each-launched : (k : ℕ) (ts : List Tree) (s : Situation) (c : Choice) (o : Outcomes) → launched_each k (trees_of ts) s c o ≡ each (λ t v. launched t v c o) k ts s
each-launched k [] s c o = refl
each-launched k (t ∷ ts) s c o = ap (λ xs. launched t (under k s) c o ∷ xs) (each-launched (suc k) ts s c o)

each-replies : (k : ℕ) (ts : List Tree) (s : Situation) (o : Outcomes) → replies_each k (trees_of ts) s o ≡ each (λ t v. replies.replies t v o) k ts s
each-replies k [] s o = refl
each-replies k (t ∷ ts) s o = ap (λ xs. replies.replies t (under k s) o ∷ xs) (each-replies (suc k) ts s o)

each-plan : (k : ℕ) (ts : List Tree) (s : Situation) → normal.plan_each k (trees_of ts) s ≡ each (λ t v. normal.plan t v) k ts s
each-plan k [] s = refl
each-plan k (t ∷ ts) s = ap (λ xs. normal.plan t (under k s) ∷ xs) (each-plan (suc k) ts s)

each-reply : (k : ℕ) (ts : List Tree) (s : Situation) (es : History) → answers_of (arrivals k (trees_of ts) s es) ≡ each (λ t v. reply t v es) k ts s
each-reply k [] s es = refl
each-reply k (t ∷ ts) s es = ap (λ xs. reply t (under k s) es ∷ xs) (each-reply (suc k) ts s es)

chosen : {A : Type 0} (f : Tree → Situation → A) (d : A) (s : Situation) (ts : List Tree) (k j n : ℕ) (t : Tree) → j < length ts → t ≡ get_or ts j t → n ≡ k + j → child_or d j (each f k ts s) ≡ f t (under n s)
chosen f d s [] k j n t h is e = absurd (omega (arith, h))
chosen f d s (u ∷ ts) k zero n t h is e = let same : n ≡ k = omega (arith, e) in rw (same, is) refl
chosen f d s (u ∷ ts) k (suc j) n t h is e = chosen f d s ts (suc k) j n t (omega (arith, h)) is (omega (arith, e))

unchosen : {A : Type 0} (f : Tree → Situation → A) (d : A) (s : Situation) (ts : List Tree) (k j : ℕ) → length ts ≤ j → child_or d j (each f k ts s) ≡ d
unchosen f d s [] k j h = refl
unchosen f d s (u ∷ ts) k zero h = absurd (omega (arith, h))
unchosen f d s (u ∷ ts) k (suc j) h = unchosen f d s ts (suc k) j (omega (arith, h))

-- the route does what child n does, or ErrorRoute where there is none
pub record Chooses (n : ℕ) (t : Tree) (ts : Trees) (s : Situation) : Type 0 where
  pub sends : (c : Choice) (o : Outcomes) → launched t s c o ≡ child_or [] n (launched_each 0 ts s c o)
  pub replies : (o : Outcomes) → replies.replies t s o ≡ child_or (refused ∷ []) n (replies_each 0 ts s o)
  pub reply : (es : History) → definition.reply t s es ≡ child_or (Some refused) n (answers_of (arrivals 0 ts s es))
  pub plans : normal.plan t s ≡ child_or (planned.Reply Error) n (normal.plan_each 0 ts s)

pub operation_chooses : (ops : List (Option Op)) (ts : Trees) (s : Situation) (n : ℕ) → n ≡ policy_of s.op ops → Chooses n (operation_selector ops ts) ts s
operation_chooses ops ts s n e = record { sends = λ c o. rw e refl; replies = λ o. rw e refl; reply = λ es. rw e refl; plans = rw e refl }

pub prefix_chooses : (prefixes : List (List ℕ)) (ts : Trees) (s : Situation) (n : ℕ) → n ≡ prefix_policy s.rest prefixes → Chooses n (prefix_selector prefixes ts) ts s
prefix_chooses prefixes ts s n e = record { sends = λ c o. rw e refl; replies = λ o. rw e refl; reply = λ es. rw e refl; plans = rw e refl }

pub miss_chooses : (ts : Trees) (s : Situation) → is_reading s.op ≡ false → Chooses 0 (many MissFailover ts) ts s
miss_chooses ts s h = record { sends = λ c o. rw h refl; replies = λ o. rw h refl; reply = λ es. rw h refl; plans = rw h refl }

pub does_child : (n : ℕ) (u : Tree) (ts : List Tree) (s : Situation) (t : Tree) → Chooses n u (trees_of ts) s → n < length ts → t ≡ get_or ts n t → Does u s t (under n s)
does_child n u ts s t d h is = record {
  op = refl;
  sends = λ c o. d.sends c o ∙ rw (each-launched 0 ts s c o) (chosen (λ u v. launched u v c o) [] s ts 0 n n t h is (omega arith));
  replies = λ o. d.replies o ∙ rw (each-replies 0 ts s o) (chosen (λ u v. replies.replies u v o) (refused ∷ []) s ts 0 n n t h is (omega arith));
  reply = λ es. d.reply es ∙ rw (each-reply 0 ts s es) (chosen (λ u v. reply u v es) (Some refused) s ts 0 n n t h is (omega arith));
  whole = d.plans ∙ rw (each-plan 0 ts s) (chosen (λ u v. normal.plan u v) (planned.Reply Error) s ts 0 n n t h is (omega arith));
}

pub does_error : (n : ℕ) (u : Tree) (ts : List Tree) (s : Situation) → Chooses n u (trees_of ts) s → length ts ≤ n → Does u s error s
does_error n u ts s d h = record {
  op = refl;
  sends = λ c o. d.sends c o ∙ rw (each-launched 0 ts s c o) (unchosen (λ u v. launched u v c o) [] s ts 0 n h);
  replies = λ o. d.replies o ∙ rw (each-replies 0 ts s o) (unchosen (λ u v. replies.replies u v o) (refused ∷ []) s ts 0 n h);
  reply = λ es. d.reply es ∙ rw (each-reply 0 ts s es) (unchosen (λ u v. reply u v es) (Some refused) s ts 0 n h);
  whole = d.plans ∙ rw (each-plan 0 ts s) (unchosen (λ u v. normal.plan u v) (planned.Reply Error) s ts 0 n h);
}

-- ---- policies, with more routes after them

module _ {A P : Type 0} (g : P → A × Tree) where
  abbrev pub routes_before : List P → List Tree → List Tree
  routes_before policies more = map (λ p. p.1) (map g policies) ++ more

  pub policy_at : (policies : List P) (more : List Tree) (j : ℕ) (policy : P) → j < length policies → policy ≡ get_or policies j policy → (g policy).1 ≡ get_or (routes_before policies more) j (g policy).1
  policy_at [] more j policy h is = absurd (omega (arith, h))
  policy_at (p ∷ policies) more zero policy h is = ap (λ q. (g q).1) is
  policy_at (p ∷ policies) more (suc j) policy h is = policy_at policies more j policy (omega (arith, h)) is

  pub last_at : (policies : List P) (t : Tree) → t ≡ get_or (routes_before policies (t ∷ [])) (length policies) t
  last_at [] t = refl
  last_at (p ∷ policies) t = last_at policies t

  pub length-routes : (policies : List P) (more : List Tree) → length (routes_before policies more) ≡ length policies + length more
  length-routes [] more = omega arith
  length-routes (p ∷ policies) more = omega (arith, length-routes policies more)

  pub serves-chosen : (plan : Plan) (u : Tree) (policies : List P) (more : List Tree) (n : ℕ) (policy : P) (s : Situation) → Chooses n u (trees_of (routes_before policies more)) s → n < length policies → policy ≡ get_or policies n policy
      → Serves plan (g policy).1 (under n s) → Serves plan u s
  serves-chosen plan u policies more n policy s d h is f =
      serves-does plan u (g policy).1 s (under n s)
      (does_child n u (routes_before policies more) s (g policy).1 d (omega (arith, h, length-routes policies more)) (policy_at policies more n policy h is)) f

  pub serves-last : (plan : Plan) (u : Tree) (policies : List P) (t : Tree) (n : ℕ) (s : Situation) → Chooses n u (trees_of (routes_before policies (t ∷ []))) s → n ≡ length policies
      → Serves plan t (under n s) → Serves plan u s
  serves-last plan u policies t n s d last f =
      serves-does plan u t s (under n s)
      (does_child n u (routes_before policies (t ∷ [])) s t d (omega (arith, last, length-routes policies (t ∷ []))) (rw last (last_at policies t))) f

  pub serves-no_last : (u : Tree) (policies : List P) (n : ℕ) (s : Situation) → Chooses n u (trees_of (routes_before policies [])) s → length policies ≤ n → Serves (Reply ErrorRoute) u s
  serves-no_last u policies n s d h =
      serves-does (Reply ErrorRoute) u error s s (does_error n u (routes_before policies []) s d (omega (arith, h, length-routes policies []))) (serves-error s)

-- ---- operations

first_or : (b : Bool) (n m : ℕ) → n ≤ m → cond b 0 (suc n) ≤ suc m
first_or true n m h = omega arith
first_or false n m h = omega (arith, h)

pub policy_of-le : (op : Op) (policies : List OperationPolicy) → policy_of op (operations_of policies) ≤ length policies
policy_of-le op [] = omega arith
policy_of-le op (p ∷ policies) = first_or (is_policy_for op (operation_view p).0) (policy_of op (operations_of policies)) (length policies) (policy_of-le op policies)

pub serves-operation : (plan : Plan) (policies : Vec OperationPolicy Global) (default : Option (Box Route Global)) (n : ℕ) (policy : OperationPolicy) (s : Situation) → n ≡ policy_of s.op (operations_of policies.items) → n < length policies.items → policy ≡ get_or policies.items n policy
    → Serves plan (view (out-OperationPolicy policy).route) (under n s) → Serves plan (view (OperationSelector policies default)) s
serves-operation plan policies default n policy s e h is f =
    rw (view-OperationSelector policies default)
    (serves-chosen operation_view plan _ policies.items (last_view default) n policy s (operation_chooses (operations_of policies.items) _ s n e) h is (rw (operation_view-out policy) f))

pub serves-default : (plan : Plan) (policies : Vec OperationPolicy Global) (route : Box Route Global) (n : ℕ) (s : Situation) → n ≡ policy_of s.op (operations_of policies.items) → length policies.items ≤ n
    → Serves plan (view route.value) (under n s) → Serves plan (view (OperationSelector policies (Some route))) s
serves-default plan policies route n s e h f =
    rw (view-OperationSelector policies (Some route))
    (serves-last operation_view plan _ policies.items (view route.value) n s (operation_chooses (operations_of policies.items) _ s n e) (omega (arith, e, h, policy_of-le s.op policies.items)) f)

pub serves-no_default : (policies : Vec OperationPolicy Global) (n : ℕ) (s : Situation) → n ≡ policy_of s.op (operations_of policies.items) → length policies.items ≤ n
    → Serves (Reply ErrorRoute) (view (OperationSelector policies None)) s
serves-no_default policies n s e h =
    rw (view-OperationSelector policies None)
    (serves-no_last operation_view _ policies.items n s (operation_chooses (operations_of policies.items) _ s n e) h)

-- ---- prefixes

-- one that is longer or as long, and comes later, goes before
abbrev pub longer_after : ℕ × ℕ → Option (ℕ × ℕ) → Option (ℕ × ℕ)
longer_after a None = Some a
longer_after a (Some b) = cond (nat_le a.1 b.1) (Some b) (Some a)

-- the longest of those before and those from here on
abbrev pub merged : Option (ℕ × ℕ) → Option (ℕ × ℕ) → Option (ℕ × ℕ)
merged None r = r
merged (Some a) r = longer_after a r

pub longest-step : (k : ℕ) (rest p : List ℕ) (prefixes : List (List ℕ)) (b : Bool) (r : Option (ℕ × ℕ)) → begins_with rest p ≡ b → longest_from (suc k) rest prefixes ≡ r
    → longest_from k rest (p ∷ prefixes) ≡ cond b (longer_after (k, length p) r) r
longest-step k rest p prefixes false r w f = rw (w, f) refl
longest-step k rest p prefixes true None w f = rw (w, f) refl
longest-step k rest p prefixes true (Some b) w f = rw (w, f) refl

merged-two : (a x : ℕ × ℕ) → merged (Some x) (Some a) ≡ merged (cond (nat_le x.1 a.1) (Some a) (Some x)) None
merged-two a x = by_test (nat_le x.1 a.1)
  where
    by_test : (b : Bool) → cond b (Some a) (Some x) ≡ merged (cond b (Some a) (Some x)) None
    by_test true = refl
    by_test false = refl

-- by the lengths of three
merged-three : (x a b : ℕ × ℕ) (c d e : Bool) → nat_le a.1 b.1 ≡ c → nat_le x.1 a.1 ≡ d → nat_le x.1 b.1 ≡ e
    → merged (Some x) (cond c (Some b) (Some a)) ≡ merged (cond d (Some a) (Some x)) (Some b)
merged-three x a b true true true h i j = rw (h, j) refl
merged-three x a b true true false h i j = absurd (let f : ⊥ = grind (arith, h, i, j) in f)
merged-three x a b true false e h i j = refl
merged-three x a b false true e h i j = rw (h, i) refl
merged-three x a b false false true h i j = absurd (let f : ⊥ = grind (arith, h, i, j) in f)
merged-three x a b false false false h i j = rw (i, j) refl

pub merged-step : (l : Option (ℕ × ℕ)) (a : ℕ × ℕ) (r : Option (ℕ × ℕ)) → merged l (longer_after a r) ≡ merged (longer_of l a) r
merged-step None a r = refl
merged-step (Some x) a None = merged-two a x
merged-step (Some x) a (Some b) = merged-three x a b (nat_le a.1 b.1) (nat_le x.1 a.1) (nat_le x.1 b.1) refl refl refl

-- one policy more
pub merged-grows : (l : Option (ℕ × ℕ)) (k : ℕ) (rest p : List ℕ) (prefixes : List (List ℕ))
    → merged l (longest_from k rest (p ∷ prefixes)) ≡ merged (cond (begins_with rest p) (longer_of l (k, length p)) l) (longest_from (suc k) rest prefixes)
merged-grows l k rest p prefixes =
    ap (merged l) (longest-step k rest p prefixes (begins_with rest p) (longest_from (suc k) rest prefixes) refl refl)
    ∙ by_test (begins_with rest p)
  where
    by_test : (b : Bool) → merged l (cond b (longer_after (k, length p) (longest_from (suc k) rest prefixes)) (longest_from (suc k) rest prefixes)) ≡ merged (cond b (longer_of l (k, length p)) l) (longest_from (suc k) rest prefixes)
    by_test true = merged-step l (k, length p) (longest_from (suc k) rest prefixes)
    by_test false = refl

-- the loop over policies
pub prefix-grows : (l : Option (ℕ × ℕ)) (rest : List ℕ) (policies : List PrefixPolicy) (n : ℕ) (policy : PrefixPolicy) → n < length policies → policy ≡ get_or policies n policy
    → merged (cond (begins_with rest (prefix_view policy).0) (longer_of l (n, length (prefix_view policy).0)) l) (longest_from (n + 1) rest (prefixes_of (drop (n + 1) policies)))
    ≡ merged l (longest_from n rest (prefixes_of (drop n policies)))
prefix-grows l rest policies n policy h is =
    rw (add-one n, drop-cons policies n policy h, ← is)
    (sym (merged-grows l n rest (prefix_view policy).0 (prefixes_of (drop (suc n) policies))))

-- a number that is found is below the end
abbrev IsBelow : ℕ → Option (ℕ × ℕ) → Type 0
IsBelow n None = Unit {0}
IsBelow n (Some a) = a.0 < n

longest-below : (k n : ℕ) (rest : List ℕ) (prefixes : List (List ℕ)) → n ≡ k + length prefixes → IsBelow n (longest_from k rest prefixes)
longest-below k n rest [] e = tt
longest-below k n rest (p ∷ prefixes) e =
    subst (IsBelow n) (sym (longest-step k rest p prefixes (begins_with rest p) (longest_from (suc k) rest prefixes) refl refl))
    (by_found (begins_with rest p) (longest_from (suc k) rest prefixes) (longest-below (suc k) n rest prefixes (omega (arith, e))))
  where
    by_length : (b : Bool) (x y : ℕ × ℕ) → x.0 < n → y.0 < n → IsBelow n (cond b (Some x) (Some y))
    by_length true x y h i = h
    by_length false x y h i = i

    by_found : (b : Bool) (r : Option (ℕ × ℕ)) → IsBelow n r → IsBelow n (cond b (longer_after (k, length p) r) r)
    by_found true None h = omega (arith, e)
    by_found true (Some x) h = by_length (nat_le (length p) x.1) x (k, length p) h (omega (arith, e))
    by_found false r h = h

pub prefix_policy-le : (rest : List ℕ) (prefixes : List (List ℕ)) → prefix_policy rest prefixes ≤ length prefixes
prefix_policy-le rest prefixes = by_found (longest_from 0 rest prefixes) (longest-below 0 (length prefixes) rest prefixes (omega arith))
  where
    by_found : (r : Option (ℕ × ℕ)) → IsBelow (length prefixes) r → unwrap_or (option_map (λ b. b.0) r) (length prefixes) ≤ length prefixes
    by_found None h = omega arith
    by_found (Some a) h = omega (arith, h)

pub length-prefixes : (policies : List PrefixPolicy) → length (prefixes_of policies) ≡ length policies
length-prefixes [] = refl
length-prefixes (p ∷ policies) = ap suc (length-prefixes policies)

pub serves-prefix : (plan : Plan) (policies : Vec PrefixPolicy Global) (wildcard : Option (Box Route Global)) (n : ℕ) (policy : PrefixPolicy) (s : Situation) → n ≡ prefix_policy s.rest (prefixes_of policies.items) → n < length policies.items → policy ≡ get_or policies.items n policy
    → Serves plan (view (out-PrefixPolicy policy).route) (under n s) → Serves plan (view (PrefixSelector policies wildcard)) s
serves-prefix plan policies wildcard n policy s e h is f =
    rw (view-PrefixSelector policies wildcard)
    (serves-chosen prefix_view plan _ policies.items (last_view wildcard) n policy s (prefix_chooses (prefixes_of policies.items) _ s n e) h is (rw (prefix_view-out policy) f))

pub serves-wildcard : (plan : Plan) (policies : Vec PrefixPolicy Global) (route : Box Route Global) (n : ℕ) (s : Situation) → n ≡ prefix_policy s.rest (prefixes_of policies.items) → length policies.items ≤ n
    → Serves plan (view route.value) (under n s) → Serves plan (view (PrefixSelector policies (Some route))) s
serves-wildcard plan policies route n s e h f =
    rw (view-PrefixSelector policies (Some route))
    (serves-last prefix_view plan _ policies.items (view route.value) n s (prefix_chooses (prefixes_of policies.items) _ s n e)
    (omega (arith, e, h, prefix_policy-le s.rest (prefixes_of policies.items), length-prefixes policies.items)) f)

pub serves-no_wildcard : (policies : Vec PrefixPolicy Global) (n : ℕ) (s : Situation) → n ≡ prefix_policy s.rest (prefixes_of policies.items) → length policies.items ≤ n
    → Serves (Reply ErrorRoute) (view (PrefixSelector policies None)) s
serves-no_wildcard policies n s e h =
    rw (view-PrefixSelector policies None)
    (serves-no_last prefix_view _ policies.items n s (prefix_chooses (prefixes_of policies.items) _ s n e) h)

-- ---- a handle's first child, and no child

pub serves-first_child : (plan : Plan) (routes : List Route) (first : Route) (s : Situation) → is_reading s.op ≡ false → 0 < length routes → first ≡ get_or routes 0 first
    → Serves plan (view first) (under 0 s) → Serves plan (many MissFailover (trees_of (map view routes))) s
serves-first_child plan [] first s h n is f = absurd (omega (arith, n))
serves-first_child plan (r ∷ routes) first s h n is f =
    serves-does plan (many MissFailover (trees_of (map view (r ∷ routes)))) (view r) s (under 0 s)
    (does_child 0 (many MissFailover (trees_of (map view (r ∷ routes)))) (map view (r ∷ routes)) s (view r) (miss_chooses (trees_of (map view (r ∷ routes))) s h) (omega arith) refl)
    (subst (λ x. Serves plan (view x) (under 0 s)) is f)

pub serves-no_child : (routes : List Route) (s : Situation) → is_reading s.op ≡ false → length routes ≡ 0 → Serves (Reply ErrorRoute) (many MissFailover (trees_of (map view routes))) s
serves-no_child [] s h n = serves-does (Reply ErrorRoute) (many MissFailover none) error s s (does_error 0 (many MissFailover none) [] s (miss_chooses none s h) (omega arith)) (serves-error s)
serves-no_child (r ∷ routes) s h n = absurd (omega (arith, n))

pub serves-no_initial : (routes : List Route) (s : Situation) → length routes ≡ 0 → Serves (Reply ErrorRoute) (many AllInitial (trees_of (map view routes))) s
serves-no_initial [] s n = serves-does (Reply ErrorRoute) (many AllInitial none) error s s (record { op = refl; sends = λ c o. refl; replies = λ o. refl; reply = λ es. refl; whole = refl }) (serves-error s)
serves-no_initial (r ∷ routes) s n = absurd (omega (arith, n))

-- ---- migrations and warm-ups

pub migrates_from : (from to : Tree) (start interval : ℕ) (s : Situation) → way_of s start interval ≡ to_from → Does (migrate from to start interval) s from (under 0 s)
migrates_from from to start interval s w = record { op = refl; sends = λ c o. rw w refl; replies = λ o. rw w refl; reply = λ es. rw w refl; whole = rw w refl }

pub migrates_to : (from to : Tree) (start interval : ℕ) (s : Situation) → way_of s start interval ≡ to_to → Does (migrate from to start interval) s to (under 1 s)
migrates_to from to start interval s w = record { op = refl; sends = λ c o. rw w refl; replies = λ o. rw w refl; reply = λ es. rw w refl; whole = rw w refl }

pub migrates_both : (from to : Tree) (start interval : ℕ) (s : Situation) → way_of s start interval ≡ to_both → Does (migrate from to start interval) s (many AllSync (trees_of (from ∷ to ∷ []))) s
migrates_both from to start interval s w = record {
  op = refl;
  sends = λ c o. rw w (ap (λ ls. launched from (under 0 s) c o ++ ls) (sym (append-nil (launched to (under 1 s) c o))));
  replies = λ o. rw w refl;
  reply = λ es. rw w refl;
  whole = rw w refl;
}

pub warms_not : (cold warm : Tree) (exptime : ℕ) (s : Situation) → is_reading s.op ≡ false → Does (warm_up cold warm exptime) s cold (under 0 s)
warms_not cold warm exptime s h = record { op = refl; sends = λ c o. rw h refl; replies = λ o. rw h refl; reply = λ es. rw h refl; whole = rw h refl }
