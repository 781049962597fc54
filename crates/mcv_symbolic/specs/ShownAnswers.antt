-- Which legs answer what, for the reply of answers that are all alike and for a hit, by the plan of what is asked (own).
use Rattle.std.specs.Prelude.{ℕ, List, [], ◌∷◌, ◌++◌, map, Option, Some, None, if◌then◌else◌}
use Rattle.mcv_base.specs.declared.reply.Outcome.{Outcome}
use Rattle.mcv_base.specs.declared.reply.Outcome.TheVariants.{Good, Soft, Error}
use Rattle.mcv_base.specs.Reply.{is_error, is_missed}
use Rattle.mcv_route.specs.Outcomes.{History, is_same}
use Rattle.mcv_rules.specs.Plan.{Plan, Send, Reply, Both, Beside, OnError, OnMiss, OnHit, Shadowed}
use Rattle.mcv_symbolic.specs.Structure.{if_all}
use Rattle.mcv_symbolic.specs.declared.shown.LegAnswer.{LegAnswer}

-- answers as a history: each at the position of its leg
abbrev pub history_of : List LegAnswer → History
history_of = map (λ a. (a.leg.now.position, a.outcome))

-- ---- answers of all legs alike

-- x from each leg that the reply needs, in turn
abbrev pub answers : Outcome → Plan → History
answers x (Send l) = (l.position, x) ∷ []
answers x (Reply y) = []
answers x (Both t u) = answers x t ++ answers x u
answers x (Beside t u) = answers x t
answers x (OnError t u) = answers x t ++ (if is_error (if_all x t) then answers x u else [])
answers x (OnMiss t u) = answers x t ++ (if is_missed (if_all x t) then answers x u else [])
answers x (OnHit t u) = answers x t
answers x (Shadowed s a b t u) = answers x t

-- ---- a hit

abbrev pub also : History → Option History → Option History
also es None = None
also es (Some fs) = Some (es ++ fs)

abbrev pub or_else : Option History → Option History → Option History
or_else None y = y
or_else (Some es) y = Some es

abbrev pub one_after_other : Option History → Option History → Option History
one_after_other None y = None
one_after_other (Some es) y = also es y

-- a hit of the first leg that can hit; None where there is none
abbrev pub first_hit : Plan → Option History
first_hit (Send l) = Some ((l.position, Good) ∷ [])
first_hit (Reply y) = None
first_hit (Both t u) = one_after_other (first_hit t) (first_hit u)
first_hit (Beside t u) = first_hit t
first_hit (OnError t u) = or_else (first_hit t) (if is_error (if_all Error t) then also (answers Error t) (first_hit u) else None)
first_hit (OnMiss t u) = or_else (first_hit t) (if is_missed (if_all Soft t) then also (answers Soft t) (first_hit u) else None)
first_hit (OnHit t u) = first_hit t
first_hit (Shadowed s a b t u) = first_hit t

-- a hit of the leg at the position; what has to hit beside it hits by its first leg that can
abbrev pub leaf_hit : List ℕ → Plan → Option History
leaf_hit p (Send l) = if is_same l.position p then Some ((l.position, Good) ∷ []) else None
leaf_hit p (Reply y) = None
leaf_hit p (Both t u) = or_else (one_after_other (leaf_hit p t) (first_hit u)) (one_after_other (first_hit t) (leaf_hit p u))
leaf_hit p (Beside t u) = leaf_hit p t
leaf_hit p (OnError t u) = or_else (leaf_hit p t) (if is_error (if_all Error t) then also (answers Error t) (leaf_hit p u) else None)
leaf_hit p (OnMiss t u) = or_else (leaf_hit p t) (if is_missed (if_all Soft t) then also (answers Soft t) (leaf_hit p u) else None)
leaf_hit p (OnHit t u) = leaf_hit p t
leaf_hit p (Shadowed s a b t u) = leaf_hit p t
