-- What a route replies, once the outcomes of some legs are known.
use Rattle.std.specs.Prelude.{ℕ, suc, List, [], ◌∷◌, ◌++◌, Option, Some, None, nat_lt, if◌then◌else◌}
use Rattle.mcv_base.specs.declared.reply.Outcome.{Outcome}
use Rattle.mcv_base.specs.declared.reply.Outcome.TheVariants.{Good, Soft, Error}
use Rattle.mcv_route.specs.Outcomes.{Outcomes}
use Rattle.mcv_base.specs.Reply.{is_error, is_good, badness}
use Rattle.mcv_route.specs.Tree.{Tree, Trees, pool, null, error, many, AllSync, AllInitial, AllAsync, Failover, MissFailover, warm_up, migrate, prefix_selector, operation_selector, none, child}
use Rattle.mcv_route.specs.Misses.{fails_over_on_miss, is_warmed_up}
use Rattle.mcv_route.specs.Situation.{Situation, under}
use Rattle.mcv_route.specs.Children.{child_or, together, policy_of, prefix_policy, way_of, by_way}

-- whose reply it is: that of the leg at a position, the default reply, or ErrorRoute's
pub data Source : Type 0 where
  leg : List ℕ → Source
  fixed : Source
  refusal : Source

pub record Answer : Type 0 where
  pub outcome : Outcome
  pub source : Source

abbrev pub default_answer : Answer
default_answer = record { outcome = Soft; source = fixed }

abbrev pub refused : Answer
refused = record { outcome = Error; source = refusal }

-- the answer of a pool's own leg at the position
abbrev pub own_answers : List ℕ → Option Outcome → List Answer
own_answers p None = []
own_answers p (Some x) = record { outcome = x; source = leg p } ∷ []

-- all answers have one outcome
abbrev pub outcome_of : List Answer → Option Outcome
outcome_of [] = None
outcome_of (a ∷ answers) = Some a.outcome

-- once both have replied, the worse answers, or all where they are as bad
abbrev pub the_worse : List Answer → List Answer → List Answer
the_worse [] bs = []
the_worse (a ∷ more) [] = []
the_worse (a ∷ more) (b ∷ bs) =
    if nat_lt (badness a.outcome) (badness b.outcome) then b ∷ bs
    else if nat_lt (badness b.outcome) (badness a.outcome) then a ∷ more
    else a ∷ more ++ b ∷ bs

-- the first answers, or after an error the second
abbrev pub or_after_error : List Answer → List Answer → List Answer
or_after_error [] bs = []
or_after_error (a ∷ more) bs = if is_error a.outcome then bs else a ∷ more

-- the first answers if they are hits, else, once they are there, the second
abbrev pub or_after_miss : List Answer → List Answer → List Answer
or_after_miss [] bs = []
or_after_miss (a ∷ more) bs = if is_good a.outcome then a ∷ more else bs

abbrev mutual
  -- no answer yet, or each answer that the replies known could have made
  pub replies : Tree → Situation → Outcomes → List Answer
  replies (pool p ranges targets) s o = own_answers s.position (o s.position)
  replies null s o = default_answer ∷ []
  replies error s o = refused ∷ []
  replies (many AllSync ts) s o = together the_worse (refused ∷ []) (replies_each 0 ts s o)
  replies (many AllInitial ts) s o = child_or (refused ∷ []) 0 (replies_each 0 ts s o)
  replies (many AllAsync ts) s o = default_answer ∷ []
  replies (many Failover ts) s o = together or_after_error (refused ∷ []) (replies_each 0 ts s o)
  replies (many MissFailover ts) s o =
      if fails_over_on_miss s.op then together or_after_miss (refused ∷ []) (replies_each 0 ts s o)
      else child_or (refused ∷ []) 0 (replies_each 0 ts s o)
  replies (warm_up cold warm exptime) s o =
      if is_warmed_up s.op then or_after_miss (replies cold (under 0 s) o) (replies warm (under 1 s) o) else replies cold (under 0 s) o
  replies (migrate from to start interval) s o =
      by_way (way_of s start interval) (replies from (under 0 s) o) (replies to (under 1 s) o)
      (the_worse (replies from (under 0 s) o) (replies to (under 1 s) o))
  replies (prefix_selector prefixes ts) s o = child_or (refused ∷ []) (prefix_policy s.rest prefixes) (replies_each 0 ts s o)
  replies (operation_selector ops ts) s o = child_or (refused ∷ []) (policy_of s.op ops) (replies_each 0 ts s o)

  -- those of each child, the first of which has number k
  pub replies_each : ℕ → Trees → Situation → Outcomes → List (List Answer)
  replies_each k none s o = []
  replies_each k (child t ts) s o = replies t (under k s) o ∷ replies_each (suc k) ts s o
