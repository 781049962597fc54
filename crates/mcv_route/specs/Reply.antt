-- Which of the answers that a route could give is the one that came last.
use Rattle.std.specs.Prelude.{ℕ, suc, List, [], ◌∷◌, Bool, true, false, Option, Some, None, nat_lt, nat_le, ◌&&◌, ◌||◌, ◌==◌, if◌then◌else◌, length, map}
use Rattle.mcv_base.specs.declared.reply.Outcome.{Outcome}
use Rattle.mcv_route.specs.Outcomes.{History, outcomes}
use Rattle.mcv_base.specs.Reply.{is_error, is_good, badness}
use Rattle.mcv_route.specs.Tree.{Tree, Trees, pool, null, error, many, AllSync, AllInitial, AllAsync, Failover, MissFailover, warm_up, migrate, prefix_selector, operation_selector, none, child}
use Rattle.mcv_route.specs.Misses.{fails_over_on_miss, is_warmed_up}
use Rattle.mcv_route.specs.Situation.{Situation, under}
use Rattle.mcv_route.specs.Children.{child_or, together, policy_of, prefix_policy, way_of, by_way}
use Rattle.mcv_route.specs.Replies.{Answer, leg, default_answer, refused, replies}

abbrev pub is_waiting : List Answer → Bool
is_waiting [] = true
is_waiting (a ∷ answers) = false

-- how many outcomes of the list, the newest first, had come when the route first had an answer
abbrev pub came : Tree → Situation → History → ℕ
came t s [] = 0
came t s (e ∷ es) = if is_waiting (replies t s (outcomes es)) then suc (length es) else came t s es

-- what a child answers, if it does, and when it did first
pub record Arrival : Type 0 where
  pub answer : Option Answer
  pub came : ℕ

abbrev pub arrival : Option Answer → ℕ → Arrival
arrival x n = record { answer = x; came = n }

-- one that is missing holds up all, and Error is worse than Soft, and Soft than Good
abbrev pub weight : Option Answer → ℕ
weight None = 3
weight (Some a) = badness a.outcome

-- the second, where it is worse, or as bad and came no earlier
abbrev pub last_worse : Arrival → Arrival → Arrival
last_worse a b =
    if nat_lt (weight a.answer) (weight b.answer) || ((weight a.answer == weight b.answer) && nat_le a.came b.came) then b else a

-- the first answer, or after an error the second
abbrev pub next_after_error : Option Answer → Option Answer → Option Answer
next_after_error None y = None
next_after_error (Some a) y = if is_error a.outcome then y else Some a

-- the first answer if it is a hit, else, once it is there, the second
abbrev pub next_after_miss : Option Answer → Option Answer → Option Answer
next_after_miss None y = None
next_after_miss (Some a) y = if is_good a.outcome then Some a else y

abbrev pub own_answer : List ℕ → Option Outcome → Option Answer
own_answer p None = None
own_answer p (Some x) = Some (record { outcome = x; source = leg p })

abbrev pub answers_of : List Arrival → List (Option Answer)
answers_of arrivals = map (λ a. a.answer) arrivals

abbrev mutual
  -- the one answer, once the outcomes of the list, the newest first, have come
  pub reply : Tree → Situation → History → Option Answer
  reply (pool p ranges targets) s es = own_answer s.position (outcomes es s.position)
  reply null s es = Some default_answer
  reply error s es = Some refused
  reply (many AllSync ts) s es = (together last_worse (arrival (Some refused) 0) (arrivals 0 ts s es)).answer
  reply (many AllInitial ts) s es = child_or (Some refused) 0 (answers_of (arrivals 0 ts s es))
  reply (many AllAsync ts) s es = Some default_answer
  reply (many Failover ts) s es = together next_after_error (Some refused) (answers_of (arrivals 0 ts s es))
  reply (many MissFailover ts) s es =
      if fails_over_on_miss s.op then together next_after_miss (Some refused) (answers_of (arrivals 0 ts s es))
      else child_or (Some refused) 0 (answers_of (arrivals 0 ts s es))
  reply (warm_up cold warm exptime) s es =
      if is_warmed_up s.op then next_after_miss (reply cold (under 0 s) es) (reply warm (under 1 s) es) else reply cold (under 0 s) es
  reply (migrate from to start interval) s es =
      by_way (way_of s start interval) (reply from (under 0 s) es) (reply to (under 1 s) es)
      (last_worse (arrival (reply from (under 0 s) es) (came from (under 0 s) es)) (arrival (reply to (under 1 s) es) (came to (under 1 s) es))).answer
  reply (prefix_selector prefixes ts) s es = child_or (Some refused) (prefix_policy s.rest prefixes) (answers_of (arrivals 0 ts s es))
  reply (operation_selector ops ts) s es = child_or (Some refused) (policy_of s.op ops) (answers_of (arrivals 0 ts s es))

  -- those of each child, the first of which has number k
  pub arrivals : ℕ → Trees → Situation → History → List Arrival
  arrivals k none s es = []
  arrivals k (child t ts) s es = arrival (reply t (under k s) es) (came t (under k s) es) ∷ arrivals (suc k) ts s es
