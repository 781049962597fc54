-- What holds of a handle with children only, by what holds of its children: one case for each kind.
use Rattle.std.proofs.Common.{◌≡◌, ◌≢◌, ℕ, zero, suc, Bool, true, false, List, [], ◌∷◌, refl}
use Rattle.std.specs.Prelude.{⊤, fold, if◌then◌else◌}
use Rattle.mcv_base.specs.Operation.{is_reading}
use Rattle.mcv_base.specs.declared.reply.Outcome.{Outcome}
use Rattle.mcv_base.specs.declared.reply.Outcome.TheVariants.{Good, Soft, Error}
use Rattle.mcv_route.specs.Children.{child_or, rest_of, together}
use Rattle.mcv_route.specs.Outcomes.{Outcomes}
use Rattle.mcv_route.specs.Replies.{Answer, default_answer, refused, the_worse, or_after_error, or_after_miss, replies, replies_each}
use Rattle.mcv_route.specs.Situation.{Situation, asynchronous}
use Rattle.mcv_route.specs.Tree.{Trees, many, Many, AllSync, AllInitial, AllAsync, Failover, MissFailover}
use Rattle.mcv_rules.specs.Plan.{Plan, Reply, Both, Beside, OnError, OnMiss}
use Rattle.mcv_rules.specs.Plans.{plan, plan_each}
use Rattle.mcv_rules.proofs.RelatedLists.{Related, child_related, if_related, together_related}

-- ---- plans

-- what holds of the plan of each child, the first of which has number k
abbrev pub AllAt : (ℕ → Plan → Type 0) → ℕ → List Plan → Type 0
AllAt At k [] = ⊤
AllAt At k (u ∷ us) = At k u × AllAt At (suc k) us

-- what holds of the children before number k together, and is kept when child k comes to them, in each way that there is
pub record Grows (reads : Bool) (At Early : ℕ → Plan → Type 0) : Type 0 where
  pub reply : (k : ℕ) (x : Outcome) → x ≢ Good → Early k (Reply x)
  pub first : (k : ℕ) (u : Plan) → At k u → Early (suc k) u
  pub all : (k : ℕ) (t u : Plan) → Early k t → At k u → Early (suc k) (Both t u)
  pub beside : (k : ℕ) (t u : Plan) → Early k t → At k u → Early (suc k) (Beside t u)
  pub after_error : (k : ℕ) (t u : Plan) → Early k t → At k u → Early (suc k) (OnError t u)
  pub after_miss : reads ≡ true → (k : ℕ) (t u : Plan) → Early k t → At k u → Early (suc k) (OnMiss t u)

module _ (reads : Bool) (At Early : ℕ → Plan → Type 0) (g : Grows reads At Early) where
  -- it holds of so many children together
  abbrev Holds : Plan → Type 0
  Holds t = (n : ℕ) × Early n t

  failed : (k : ℕ) → Early k (Reply Error)
  failed k = g.reply k Error (λ e. absurd cc)

  folded : (join : Plan → Plan → Plan) → ((k : ℕ) (t u : Plan) → Early k t → At k u → Early (suc k) (join t u)) → (k : ℕ) (t : Plan) (us : List Plan) → Early k t → AllAt At k us → Holds (fold join t us)
  folded join f k t [] e a = (k, e)
  folded join f k t (u ∷ us) e a = folded join f (suc k) (join t u) us (f k t u e a.0) a.1

  joined : (join : Plan → Plan → Plan) → ((k : ℕ) (t u : Plan) → Early k t → At k u → Early (suc k) (join t u)) → (us : List Plan) → AllAt At 0 us → Holds (together join (Reply Error) us)
  joined join f [] a = (0, failed 0)
  joined join f (u ∷ us) a = folded join f 1 u us (g.first 0 u a.0) a.1

  -- one child of those from number k on
  pub chosen : (k n : ℕ) (us : List Plan) → AllAt At k us → (m : ℕ) × Early m (child_or (Reply Error) n us)
  chosen k n [] a = (k, failed k)
  chosen k zero (u ∷ us) a = (suc k, g.first k u a.0)
  chosen k (suc n) (u ∷ us) a = chosen (suc k) n us a.1

  -- the first child, and the others beside it
  led : (us vs : List Plan) → AllAt At 0 us → AllAt At 0 vs → Holds (fold Beside (child_or (Reply Error) 0 us) (rest_of vs))
  led [] [] a b = (0, failed 0)
  led [] (v ∷ vs) a b = folded Beside g.beside 1 (Reply Error) vs (failed 1) b.1
  led (u ∷ us) [] a b = (1, g.first 0 u a.0)
  led (u ∷ us) (v ∷ vs) a b = folded Beside g.beside 1 u vs (g.first 0 u a.0) b.1

  by_test : (b : Bool) (t u : Plan) → (b ≡ true → Holds t) → Holds u → Holds (if b then t else u)
  by_test true t u h i = h refl
  by_test false t u h i = i

pub many_grown : (At Early : ℕ → Plan → Type 0) (kind : Many) (ts : Trees) (s : Situation) → Grows (is_reading s.op) At Early → AllAt At 0 (plan_each 0 ts s) → AllAt At 0 (plan_each 0 ts (asynchronous s))
    → (n : ℕ) × Early n (plan (many kind ts) s)
many_grown At Early AllSync ts s g a b = joined (is_reading s.op) At Early g Both g.all (plan_each 0 ts s) a
many_grown At Early AllInitial ts s g a b = led (is_reading s.op) At Early g (plan_each 0 ts s) (plan_each 0 ts (asynchronous s)) a b
many_grown At Early AllAsync ts s g a b = folded (is_reading s.op) At Early g Beside g.beside 0 (Reply Soft) (plan_each 0 ts (asynchronous s)) (g.reply 0 Soft (λ e. absurd cc)) b
many_grown At Early Failover ts s g a b = joined (is_reading s.op) At Early g OnError g.after_error (plan_each 0 ts s) a
many_grown At Early MissFailover ts s g a b =
    by_test (is_reading s.op) At Early g (is_reading s.op) (together OnMiss (Reply Error) (plan_each 0 ts s)) (child_or (Reply Error) 0 (plan_each 0 ts s))
    (λ e. joined (is_reading s.op) At Early g OnMiss (g.after_miss e) (plan_each 0 ts s) a)
    (chosen (is_reading s.op) At Early g 0 0 (plan_each 0 ts s) a)

-- ---- replies

-- what relates two replies of ErrorRoute and two default replies, and is kept in each way to put replies together
pub record IsKept (R : List Answer → List Answer → Type 0) : Type 0 where
  pub refusals : R (refused ∷ []) (refused ∷ [])
  pub defaults : R (default_answer ∷ []) (default_answer ∷ [])
  pub worse : (a b x y : List Answer) → R a x → R b y → R (the_worse a b) (the_worse x y)
  pub after_error : (a b x y : List Answer) → R a x → R b y → R (or_after_error a b) (or_after_error x y)
  pub after_miss : (a b x y : List Answer) → R a x → R b y → R (or_after_miss a b) (or_after_miss x y)

pub many_related : (R : List Answer → List Answer → Type 0) → IsKept R → (kind : Many) (ts : Trees) (s : Situation) (o o2 : Outcomes) → Related R (replies_each 0 ts s o) (replies_each 0 ts s o2)
    → R (replies (many kind ts) s o) (replies (many kind ts) s o2)
many_related R f AllSync ts s o o2 h = together_related R the_worse the_worse f.worse (refused ∷ []) (refused ∷ []) (replies_each 0 ts s o) (replies_each 0 ts s o2) f.refusals h
many_related R f AllInitial ts s o o2 h = child_related R (refused ∷ []) (refused ∷ []) 0 (replies_each 0 ts s o) (replies_each 0 ts s o2) f.refusals h
many_related R f AllAsync ts s o o2 h = f.defaults
many_related R f Failover ts s o o2 h = together_related R or_after_error or_after_error f.after_error (refused ∷ []) (refused ∷ []) (replies_each 0 ts s o) (replies_each 0 ts s o2) f.refusals h
many_related R f MissFailover ts s o o2 h =
    if_related R (is_reading s.op)
    (together or_after_miss (refused ∷ []) (replies_each 0 ts s o)) (child_or (refused ∷ []) 0 (replies_each 0 ts s o))
    (together or_after_miss (refused ∷ []) (replies_each 0 ts s o2)) (child_or (refused ∷ []) 0 (replies_each 0 ts s o2))
    (together_related R or_after_miss or_after_miss f.after_miss (refused ∷ []) (refused ∷ []) (replies_each 0 ts s o) (replies_each 0 ts s o2) f.refusals h)
    (child_related R (refused ∷ []) (refused ∷ []) 0 (replies_each 0 ts s o) (replies_each 0 ts s o2) f.refusals h)
