-- The plan of a route: what it does in one situation, without its handles.
use Rattle.std.specs.Prelude.{ℕ, suc, List, [], ◌∷◌, fold, map, if◌then◌else◌}
use Rattle.mcv_base.specs.declared.reply.Outcome.TheVariants.{Soft, Error}
use Rattle.mcv_rules.specs.Plan as planned
use Rattle.mcv_rules.specs.Plan.{Leg, Plan, Send, Reply, Both, Beside, OnError, OnMiss, OnHit, Shadowed, server}
use Rattle.mcv_route.specs.Outcomes.{Outcomes, Choice}
use Rattle.mcv_route.specs.declared.launch.Launch.{Launch}
use Rattle.mcv_route.specs.Tree.{Pool, Range, Tree, Trees, pool, null, error, many, AllSync, AllInitial, AllAsync, Failover, MissFailover, warm_up, migrate, prefix_selector, operation_selector, none, child}
use Rattle.mcv_route.specs.Situation.{Situation, under, asynchronous, shadowed, adding}
use Rattle.mcv_route.specs.Misses.{fails_over_on_miss, is_warmed_up}
use Rattle.mcv_route.specs.Children.{child_or, rest_of, together, policy_of, prefix_policy, way_of, by_way}

abbrev pub leg_of : Pool → Situation → Leg
leg_of p s = record { position = s.position; symbol = p.symbol; servers = p.servers; op = s.op; mark = s.mark }

-- the plan, and beside it those of shadows
abbrev pub with_shadows : ℕ → Plan → List Range → List Plan → Plan
with_shadows symbol t [] us = t
with_shadows symbol t (r ∷ rs) [] = t
with_shadows symbol t (r ∷ rs) (u ∷ us) = with_shadows symbol (Shadowed symbol r.first r.last t u) rs us

abbrev mutual
  -- one case for each handle, as in `launched` and `replies`
  pub plan : Tree → Situation → Plan
  plan (pool p ranges targets) s = with_shadows p.symbol (Send (leg_of p s)) ranges (plan_each 0 targets (shadowed s))
  plan null s = Reply Soft
  plan error s = Reply Error
  plan (many AllSync ts) s = together Both (Reply Error) (plan_each 0 ts s)
  plan (many AllInitial ts) s = fold Beside (child_or (Reply Error) 0 (plan_each 0 ts s)) (rest_of (plan_each 0 ts (asynchronous s)))
  plan (many AllAsync ts) s = fold Beside (Reply Soft) (plan_each 0 ts (asynchronous s))
  plan (many Failover ts) s = together OnError (Reply Error) (plan_each 0 ts s)
  plan (many MissFailover ts) s =
      if fails_over_on_miss s.op then together OnMiss (Reply Error) (plan_each 0 ts s) else child_or (Reply Error) 0 (plan_each 0 ts s)
  plan (warm_up cold warm exptime) s =
      if is_warmed_up s.op
      then OnMiss (plan cold (under 0 s)) (OnHit (plan warm (under 1 s)) (plan cold (under 2 (adding s))))
      else plan cold (under 0 s)
  plan (migrate from to start interval) s =
      by_way (way_of s start interval) (plan from (under 0 s)) (plan to (under 1 s)) (Both (plan from (under 0 s)) (plan to (under 1 s)))
  plan (prefix_selector prefixes ts) s = child_or (Reply Error) (prefix_policy s.rest prefixes) (plan_each 0 ts s)
  plan (operation_selector ops ts) s = child_or (Reply Error) (policy_of s.op ops) (plan_each 0 ts s)

  -- those of each child, the first of which has number k
  pub plan_each : ℕ → Trees → Situation → List Plan
  plan_each k none s = []
  plan_each k (child t ts) s = plan t (under k s) ∷ plan_each (suc k) ts s

abbrev pub launch_of : Choice → Leg → Launch
launch_of c l = record { position = l.position; server = record { 0 = server c l }; op = l.op; mark = l.mark }

-- the legs that the plan sends
abbrev pub legs_of : Plan → Choice → Outcomes → List Launch
legs_of t c o = map (launch_of c) (planned.launched t c o)
