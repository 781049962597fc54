-- Which legs a route has sent, once the outcomes of some legs are known.
use Rattle.std.specs.Prelude.{ℕ, suc, List, [], ◌∷◌, ◌++◌, Bool, if◌then◌else◌, slice_index}
use Rattle.mcv_base.specs.declared.reply.Outcome.{Outcome}
use Rattle.mcv_route.specs.Outcomes.{Outcomes, Choice}
use Rattle.mcv_base.specs.Reply.{is_error, is_missed, is_good}
use Rattle.mcv_route.specs.declared.launch.Launch.{Launch}
use Rattle.mcv_route.specs.Tree.{Pool, Tree, Trees, pool, null, error, many, AllSync, AllInitial, AllAsync, Failover, MissFailover, warm_up, migrate, prefix_selector, operation_selector, none, child}
use Rattle.mcv_route.specs.Misses.{fails_over_on_miss, is_warmed_up}
use Rattle.mcv_route.specs.Situation.{Situation, under, asynchronous, shadowed, adding}
use Rattle.mcv_route.specs.Children.{joined, child_or, rest_of, of_those_holding, policy_of, prefix_policy, way_of, by_way}
use Rattle.mcv_route.specs.Replies.{Answer, replies, replies_each}

-- the leg of a pool, to the server at the index that the choice gives its symbol
abbrev pub own_leg : Pool → Situation → Choice → Launch
own_leg p s c = record { position = s.position; server = record { 0 = slice_index p.servers (c p.symbol) }; op = s.op; mark = s.mark }

-- the legs, once the answers are there and their outcome passes the test
abbrev pub once : (Outcome → Bool) → List Answer → List Launch → List Launch
once test [] ls = []
once test (a ∷ more) ls = if test a.outcome then ls else []

-- the legs of each child before which the outcomes of all children pass the test
abbrev pub in_turn : (Outcome → Bool) → List (List Answer) → List (List Launch) → List Launch
in_turn test [] ls = []
in_turn test (r ∷ rs) [] = []
in_turn test (r ∷ rs) (l ∷ ls) = l ++ once test r (in_turn test rs ls)

abbrev mutual
  -- the legs sent, in the order of their positions
  pub launched : Tree → Situation → Choice → Outcomes → List Launch
  launched (pool p ranges targets) s c o =
      own_leg p s c ∷ of_those_holding (c p.symbol) ranges (launched_each 0 targets (shadowed s) c o)
  launched null s c o = []
  launched error s c o = []
  launched (many AllSync ts) s c o = joined (launched_each 0 ts s c o)
  launched (many AllInitial ts) s c o =
      child_or [] 0 (launched_each 0 ts s c o) ++ joined (rest_of (launched_each 0 ts (asynchronous s) c o))
  launched (many AllAsync ts) s c o = joined (launched_each 0 ts (asynchronous s) c o)
  launched (many Failover ts) s c o = in_turn is_error (replies_each 0 ts s o) (launched_each 0 ts s c o)
  launched (many MissFailover ts) s c o =
      if fails_over_on_miss s.op then in_turn is_missed (replies_each 0 ts s o) (launched_each 0 ts s c o)
      else child_or [] 0 (launched_each 0 ts s c o)
  launched (warm_up cold warm exptime) s c o =
      if is_warmed_up s.op
      then launched cold (under 0 s) c o
      ++ once is_missed (replies cold (under 0 s) o) (launched warm (under 1 s) c o
      ++ once is_good (replies warm (under 1 s) o) (launched cold (under 2 (adding s)) c o))
      else launched cold (under 0 s) c o
  launched (migrate from to start interval) s c o =
      by_way (way_of s start interval) (launched from (under 0 s) c o) (launched to (under 1 s) c o)
      (launched from (under 0 s) c o ++ launched to (under 1 s) c o)
  launched (prefix_selector prefixes ts) s c o = child_or [] (prefix_policy s.rest prefixes) (launched_each 0 ts s c o)
  launched (operation_selector ops ts) s c o = child_or [] (policy_of s.op ops) (launched_each 0 ts s c o)

  -- those of each child, the first of which has number k
  pub launched_each : ℕ → Trees → Situation → Choice → Outcomes → List (List Launch)
  launched_each k none s c o = []
  launched_each k (child t ts) s c o = launched t (under k s) c o ∷ launched_each (suc k) ts s c o
