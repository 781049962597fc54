-- The sets of a plan as lists, in the order of their positions.
use Rattle.std.specs.Prelude.{Bool, List, [], ◌∷◌, ◌++◌, Option, Some, None, if◌then◌else◌}
use Rattle.mcv_base.specs.declared.reply.Outcome.{Outcome}
use Rattle.mcv_base.specs.declared.reply.Outcome.TheVariants.{Good, Soft, Error}
use Rattle.mcv_base.specs.Reply.{is_error, is_missed, is_good}
use Rattle.mcv_route.specs.Outcomes.{Outcomes}
use Rattle.mcv_rules.specs.Plan.{Leg, Plan, Send, Reply, Both, Beside, OnError, OnMiss, OnHit, Shadowed, reply}
use Rattle.mcv_symbolic.specs.Structure.{nothing, if_all}

abbrev pub when_error : Outcome → List Leg → List Leg
when_error Good ls = []
when_error Soft ls = []
when_error Error ls = ls

abbrev pub when_replied : (Outcome → Bool) → Option Outcome → List Leg → List Leg
when_replied test None ls = []
when_replied test (Some x) ls = if test x then ls else []

-- the counted legs that are sent, as a list
abbrev pub counted : Plan → Outcomes → List Leg
counted (Send k) o = k ∷ []
counted (Reply x) o = []
counted (Both t u) o = counted t o ++ counted u o
counted (Beside t u) o = counted t o ++ counted u o
counted (OnError t u) o = counted t o ++ when_replied is_error (reply t o) (counted u o)
counted (OnMiss t u) o = counted t o ++ when_replied is_missed (reply t o) (counted u o)
counted (OnHit t u) o = counted t o ++ when_replied is_good (reply t o) (counted u o)
counted (Shadowed s a b t u) o = counted t o

abbrev pub acknowledged : Plan → List Leg
acknowledged (Send k) = k ∷ []
acknowledged (Reply x) = []
acknowledged (Both t u) = acknowledged t ++ acknowledged u
acknowledged (Beside t u) = acknowledged t ++ counted u nothing
acknowledged (OnError t u) = acknowledged t ++ when_error (if_all Good t) (acknowledged u)
acknowledged (OnMiss t u) = []
acknowledged (OnHit t u) = []
acknowledged (Shadowed s a b t u) = acknowledged t

-- those of both, where both have some
abbrev pub of_both : List Leg → List Leg → List Leg
of_both [] ls = []
of_both (k ∷ ks) [] = []
of_both (k ∷ ks) (l ∷ ls) = k ∷ ks ++ (l ∷ ls)

-- the legs whose hit can be the reply
abbrev pub hits : Plan → List Leg
hits (Send k) = k ∷ []
hits (Reply x) = []
hits (Both t u) = of_both (hits t) (hits u)
hits (Beside t u) = hits t
hits (OnError t u) = hits t ++ when_error (if_all Error t) (hits u)
hits (OnMiss t u) = hits t ++ hits u
hits (OnHit t u) = hits t
hits (Shadowed s a b t u) = hits t
