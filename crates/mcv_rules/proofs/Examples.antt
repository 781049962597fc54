-- The definitions at small trees.
use Rattle.std.proofs.Common.{◌≡◌, ℕ, List, [], ◌∷◌, Some, None, refl}
use Rattle.mcv_base.specs.declared.operation.Op.TheVariants.{Get, Delete}
use Rattle.mcv_base.specs.declared.operation.Mark.{Mark}
use Rattle.mcv_base.specs.declared.operation.Mark.TheVariants.{Plain, Shadow}
use Rattle.mcv_base.specs.declared.reply.Outcome.TheVariants.{Soft, Error}
use Rattle.mcv_base.specs.declared.reply.FixedReply.{FixedReply}
use Rattle.mcv_base.specs.declared.reply.FixedReply.TheVariants.{Deleted, NotFound, ErrorRoute, Lost}
use Rattle.mcv_base.specs.declared.reply.Part.TheVariants as parts
use Rattle.mcv_route.specs.declared.launch.Answered.{Answered}
use Rattle.mcv_route.specs.Outcomes.{outcomes}
use Rattle.mcv_route.specs.Tree.{Tree, Trees, pool, null, many, AllSync, Failover, operation_selector, none, child}
use Rattle.mcv_route.specs.Situation.{Situation, asked}
use Rattle.mcv_route.specs.Reply as one
use Rattle.mcv_rules.specs.Plan.{Leg, Send, Reply, Both, OnError, Shadowed, reply, launched}
use Rattle.mcv_rules.specs.Plans.{plan}
use Rattle.mcv_rules.specs.History.{history_of, place_of}
use Rattle.mcv_rules.specs.Status.{status_of}
use Rattle.mcv_rules.specs.declared.status.Source.TheVariants.{Outcome, Fixed}
use Rattle.mcv_rules.specs.declared.status.Status.{Status}
use Rattle.mcv_rules.specs.declared.status.Status.TheVariants.{Waits, Replied}

-- a pool of one server
abbrev server : ℕ → Tree
server n = pool (record { symbol = 0; servers = n ∷ [] }) [] none

abbrev two : Tree → Tree → Trees
two t u = child t (child u none)

abbrev delete : Situation
delete = asked Delete (97 ∷ []) None

abbrev get : Situation
get = asked Get (97 ∷ []) None

abbrev leg_at : List ℕ → ℕ → Mark → Leg
leg_at p n m = record { position = p; symbol = 0; servers = n ∷ []; op = Delete; mark = m }

-- ---- plans

all_sync_plan : plan (many AllSync (two (server 7) null)) delete ≡ Both (Send (leg_at (0 ∷ []) 7 Plain)) (Reply Soft)
all_sync_plan = refl

failover_plan : plan (many Failover (two (server 7) (server 8))) delete ≡ OnError (Send (leg_at (0 ∷ []) 7 Plain)) (Send (leg_at (1 ∷ []) 8 Plain))
failover_plan = refl

selector_plan : plan (operation_selector (None ∷ Some Delete ∷ []) (child null (two (server 7) (server 8)))) delete ≡ Send (leg_at (1 ∷ []) 7 Plain)
selector_plan = refl

missing_policy_plan : plan (operation_selector (Some Delete ∷ []) (child (server 7) none)) get ≡ Reply Error
missing_policy_plan = refl

shadow_plan : plan (pool (record { symbol = 0; servers = 7 ∷ [] }) (record { first = 0; last = 4 } ∷ []) (child (server 9) none)) delete
    ≡ Shadowed 0 0 4 (Send (leg_at [] 7 Plain)) (Send (leg_at (0 ∷ []) 9 Shadow))
shadow_plan = refl

shadow_outside : launched (Shadowed 0 0 4 (Send (leg_at [] 7 Plain)) (Send (leg_at (0 ∷ []) 9 Shadow))) (λ s. 5) (outcomes []) ≡ leg_at [] 7 Plain ∷ []
shadow_outside = refl

failover_goes_on : reply (OnError (Send (leg_at (0 ∷ []) 7 Plain)) (Reply Soft)) (outcomes ((0 ∷ [], Error) ∷ [])) ≡ Some Soft
failover_goes_on = refl

-- ---- the reply that came last

abbrev answered : List ℕ → FixedReply → Answered
answered p f = record { position = p; reply = parts.Fixed f }

-- what a delete replies at these outcomes, in the order in which they came
abbrev deleted : Tree → List Answered → Status
deleted t xs = status_of Delete xs (one.reply t delete (history_of xs))

both_faulty : deleted (many AllSync (two (server 7) (server 8))) (answered (1 ∷ []) Lost ∷ answered (0 ∷ []) Lost ∷ []) ≡ Replied (Outcome 1)
both_faulty = refl

one_missing : deleted (many AllSync (two (server 7) (server 8))) (answered (1 ∷ []) Lost ∷ []) ≡ Waits
one_missing = refl

default_and_miss : deleted (many AllSync (two null (server 8))) (answered (1 ∷ []) NotFound ∷ []) ≡ Replied (Outcome 0)
default_and_miss = refl

default_and_hit : deleted (many AllSync (two null (server 8))) (answered (1 ∷ []) Deleted ∷ []) ≡ Replied (Fixed NotFound)
default_and_hit = refl

-- the middle child is there last, by its second leg; its worst reply is the first of all
whole_child : deleted (many AllSync (child (server 7) (two (many AllSync (two (server 8) (server 9))) (server 6))))
    (answered (1 ∷ 0 ∷ []) Lost ∷ answered (0 ∷ []) Lost ∷ answered (2 ∷ []) Lost ∷ answered (1 ∷ 1 ∷ []) Deleted ∷ []) ≡ Replied (Outcome 0)
whole_child = refl

missing_policy : deleted (operation_selector [] none) [] ≡ Replied (Fixed ErrorRoute)
missing_policy = refl

-- the search within came after the other child, by its second leg
search_came_last : deleted (many AllSync (two (many Failover (two (server 7) (server 8))) (server 9)))
    (answered (0 ∷ 0 ∷ []) Lost ∷ answered (1 ∷ []) Lost ∷ answered (0 ∷ 1 ∷ []) Lost ∷ []) ≡ Replied (Outcome 2)
search_came_last = refl

place : place_of (answered (1 ∷ []) Lost ∷ answered (0 ∷ []) NotFound ∷ []) (0 ∷ []) ≡ 1
place = refl

first_counts : history_of (answered [] NotFound ∷ answered [] Deleted ∷ []) ≡ ([], Soft) ∷ []
first_counts = refl
