-- The replies of a route are the answers of its plan, whose reply they are.
use Rattle.std.proofs.Common.{◌≡◌, cond, ℕ, suc, List, [], ◌∷◌, Option, Some, None, refl, sym, ap, ap₂, ◌∙◌}
use Rattle.std.specs.Prelude.{fold}
use Rattle.mcv_base.specs.Operation.{is_reading}
use Rattle.mcv_base.specs.declared.reply.Outcome.{Outcome}
use Rattle.mcv_base.specs.declared.reply.Outcome.TheVariants.{Good, Soft, Error}
use Rattle.mcv_route.specs.Children.{child_or, rest_of, together, policy_of, prefix_policy, way_of}
use Rattle.mcv_route.specs.Outcomes.{Outcomes}
use Rattle.mcv_route.specs.Replies.{Answer, default_answer, refused, own_answers, the_worse, or_after_error, or_after_miss, replies, replies_each}
use Rattle.mcv_route.specs.Situation.{Situation, under, asynchronous, shadowed, adding}
use Rattle.mcv_route.specs.Tree.{Range, Tree, Trees, pool, null, error, many, AllSync, AllInitial, AllAsync, Failover, MissFailover, warm_up, migrate, prefix_selector, operation_selector, none, child}
use Rattle.mcv_rules.specs.Plan.{Plan, Send, Reply, Both, Beside, OnError, OnMiss, OnHit, Shadowed}
use Rattle.mcv_rules.specs.Plans.{leg_of, with_shadows, plan, plan_each}
use Rattle.mcv_rules.proofs.RelatedLists.{Related, child_related, together_related, if_related, way_related}

-- the answers of a reply at once: the default one, or ErrorRoute's
abbrev pub at_once : Outcome → List Answer
at_once Good = default_answer ∷ []
at_once Soft = default_answer ∷ []
at_once Error = refused ∷ []

abbrev pub answers : Plan → Outcomes → List Answer
answers (Send l) o = own_answers l.position (o l.position)
answers (Reply x) o = at_once x
answers (Both t u) o = the_worse (answers t o) (answers u o)
answers (Beside t u) o = answers t o
answers (OnError t u) o = or_after_error (answers t o) (answers u o)
answers (OnMiss t u) o = or_after_miss (answers t o) (answers u o)
answers (OnHit t u) o = answers t o
answers (Shadowed s a b t u) o = answers t o

-- the replies are the plan's answers
abbrev Answered : Outcomes → List Answer → Plan → Type 0
Answered o rs t = rs ≡ answers t o

beside_answers : (o : Outcomes) (t : Plan) (us : List Plan) → answers (fold Beside t us) o ≡ answers t o
beside_answers o t [] = refl
beside_answers o t (u ∷ us) = beside_answers o (Beside t u) us

shadows_answer : (o : Outcomes) (symbol : ℕ) (t : Plan) (rs : List Range) (us : List Plan) → answers (with_shadows symbol t rs us) o ≡ answers t o
shadows_answer o symbol t [] us = refl
shadows_answer o symbol t (r ∷ rs) [] = refl
shadows_answer o symbol t (r ∷ rs) (u ∷ us) = shadows_answer o symbol (Shadowed symbol r.first r.last t u) rs us

both_answered : (o : Outcomes) (a b : List Answer) (t u : Plan) → Answered o a t → Answered o b u → Answered o (the_worse a b) (Both t u)
both_answered o a b t u e f = ap₂ the_worse e f

error_answered : (o : Outcomes) (a b : List Answer) (t u : Plan) → Answered o a t → Answered o b u → Answered o (or_after_error a b) (OnError t u)
error_answered o a b t u e f = ap₂ or_after_error e f

miss_answered : (o : Outcomes) (a b : List Answer) (t u : Plan) → Answered o a t → Answered o b u → Answered o (or_after_miss a b) (OnMiss t u)
miss_answered o a b t u e f = ap₂ or_after_miss e f

mutual
  pub replied : (t : Tree) (s : Situation) (o : Outcomes) → replies t s o ≡ answers (plan t s) o
  replied (pool p ranges targets) s o = sym (shadows_answer o p.symbol (Send (leg_of p s)) ranges (plan_each 0 targets (shadowed s)))
  replied null s o = refl
  replied error s o = refl
  replied (many AllSync ts) s o =
      together_related (Answered o) the_worse Both (both_answered o) (refused ∷ []) (Reply Error) (replies_each 0 ts s o) (plan_each 0 ts s) refl (replied_each 0 ts s o)
  replied (many AllInitial ts) s o =
      child_related (Answered o) (refused ∷ []) (Reply Error) 0 (replies_each 0 ts s o) (plan_each 0 ts s) refl (replied_each 0 ts s o)
      ∙ sym (beside_answers o (child_or (Reply Error) 0 (plan_each 0 ts s)) (rest_of (plan_each 0 ts (asynchronous s))))
  replied (many AllAsync ts) s o = sym (beside_answers o (Reply Soft) (plan_each 0 ts (asynchronous s)))
  replied (many Failover ts) s o =
      together_related (Answered o) or_after_error OnError (error_answered o) (refused ∷ []) (Reply Error) (replies_each 0 ts s o) (plan_each 0 ts s) refl (replied_each 0 ts s o)
  replied (many MissFailover ts) s o =
      if_related (Answered o) (is_reading s.op)
      (together or_after_miss (refused ∷ []) (replies_each 0 ts s o)) (child_or (refused ∷ []) 0 (replies_each 0 ts s o))
      (together OnMiss (Reply Error) (plan_each 0 ts s)) (child_or (Reply Error) 0 (plan_each 0 ts s))
      (together_related (Answered o) or_after_miss OnMiss (miss_answered o) (refused ∷ []) (Reply Error) (replies_each 0 ts s o) (plan_each 0 ts s) refl (replied_each 0 ts s o))
      (child_related (Answered o) (refused ∷ []) (Reply Error) 0 (replies_each 0 ts s o) (plan_each 0 ts s) refl (replied_each 0 ts s o))
  replied (warm_up cold warm exptime) s o =
      if_related (Answered o) (is_reading s.op)
      (or_after_miss (replies cold (under 0 s) o) (replies warm (under 1 s) o)) (replies cold (under 0 s) o)
      (OnMiss (plan cold (under 0 s)) (OnHit (plan warm (under 1 s)) (plan cold (under 2 (adding s))))) (plan cold (under 0 s))
      (ap₂ or_after_miss (replied cold (under 0 s) o) (replied warm (under 1 s) o))
      (replied cold (under 0 s) o)
  replied (migrate from to start interval) s o =
      way_related (Answered o) (way_of s start interval)
      (replies from (under 0 s) o) (replies to (under 1 s) o) (the_worse (replies from (under 0 s) o) (replies to (under 1 s) o))
      (plan from (under 0 s)) (plan to (under 1 s)) (Both (plan from (under 0 s)) (plan to (under 1 s)))
      (replied from (under 0 s) o) (replied to (under 1 s) o) (ap₂ the_worse (replied from (under 0 s) o) (replied to (under 1 s) o))
  replied (prefix_selector prefixes ts) s o =
      child_related (Answered o) (refused ∷ []) (Reply Error) (prefix_policy s.rest prefixes) (replies_each 0 ts s o) (plan_each 0 ts s) refl (replied_each 0 ts s o)
  replied (operation_selector ops ts) s o =
      child_related (Answered o) (refused ∷ []) (Reply Error) (policy_of s.op ops) (replies_each 0 ts s o) (plan_each 0 ts s) refl (replied_each 0 ts s o)

  pub replied_each : (k : ℕ) (ts : Trees) (s : Situation) (o : Outcomes) → Related (Answered o) (replies_each k ts s o) (plan_each k ts s)
  replied_each k none s o = tt
  replied_each k (child t ts) s o = (replied t (under k s) o, replied_each (suc k) ts s o)
