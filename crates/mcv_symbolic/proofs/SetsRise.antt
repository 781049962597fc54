-- The sets of a plan are parts of its legs, and come in the order of their positions.
use Rattle.std.proofs.Common.{ℕ, Bool, true, false, List, [], ◌∷◌, ◌++◌, Option, Some, None}
use Rattle.std.specs.Prelude.{if◌then◌else◌}
use Rattle.mcv_base.specs.declared.reply.Outcome.{Outcome}
use Rattle.mcv_base.specs.declared.reply.Outcome.TheVariants.{Good, Soft, Error}
use Rattle.mcv_base.specs.Reply.{is_error, is_missed, is_good}
use Rattle.mcv_route.specs.Outcomes.{Outcomes}
use Rattle.mcv_route.specs.Situation.{Situation}
use Rattle.mcv_route.specs.Tree.{Tree}
use Rattle.mcv_rules.specs.Plan.{Leg, Plan, Send, Reply, Both, Beside, OnError, OnMiss, OnHit, Shadowed, reply}
use Rattle.mcv_rules.specs.Plans.{plan}
use Rattle.mcv_rules.specs.Soundness.{positions}
use Rattle.mcv_rules.proofs.LegsRise.{IsPart, IsRising, left-part, no-part, parts-of, places, plan_rises, whole-part}
use Rattle.mcv_symbolic.specs.SetLists.{when_error, when_replied, counted, acknowledged, of_both, hits}
use Rattle.mcv_symbolic.specs.Structure.{nothing, if_all}

part-when : (x : Outcome) (ls : List Leg) (qs : List (List ℕ)) → IsPart (places ls) qs → IsPart (places (when_error x ls)) qs
part-when Good ls qs a = no-part qs
part-when Soft ls qs a = no-part qs
part-when Error ls qs a = a

part-replied : (test : Outcome → Bool) (r : Option Outcome) (ls : List Leg) (qs : List (List ℕ)) → IsPart (places ls) qs → IsPart (places (when_replied test r ls)) qs
part-replied test None ls qs a = no-part qs
part-replied test (Some x) ls qs a = by (test x)
  where
    by : (b : Bool) → IsPart (places (if b then ls else [])) qs
    by true = a
    by false = no-part qs

part-of-both : (ks ls : List Leg) (ps qs : List (List ℕ)) → IsPart (places ks) ps → IsPart (places ls) qs → IsPart (places (of_both ks ls)) (ps ++ qs)
part-of-both [] ls ps qs a b = no-part (ps ++ qs)
part-of-both (k ∷ ks) [] ps qs a b = no-part (ps ++ qs)
part-of-both (k ∷ ks) (l ∷ ls) ps qs a b = parts-of (k ∷ ks) (l ∷ ls) ps qs a b

counted-part : (t : Plan) (o : Outcomes) → IsPart (places (counted t o)) (positions t)
counted-part (Send k) o = whole-part (k.position ∷ [])
counted-part (Reply x) o = no-part []
counted-part (Both t u) o = parts-of (counted t o) (counted u o) (positions t) (positions u) (counted-part t o) (counted-part u o)
counted-part (Beside t u) o = parts-of (counted t o) (counted u o) (positions t) (positions u) (counted-part t o) (counted-part u o)
counted-part (OnError t u) o = parts-of (counted t o) (when_replied is_error (reply t o) (counted u o)) (positions t) (positions u) (counted-part t o) (part-replied is_error (reply t o) (counted u o) (positions u) (counted-part u o))
counted-part (OnMiss t u) o = parts-of (counted t o) (when_replied is_missed (reply t o) (counted u o)) (positions t) (positions u) (counted-part t o) (part-replied is_missed (reply t o) (counted u o) (positions u) (counted-part u o))
counted-part (OnHit t u) o = parts-of (counted t o) (when_replied is_good (reply t o) (counted u o)) (positions t) (positions u) (counted-part t o) (part-replied is_good (reply t o) (counted u o) (positions u) (counted-part u o))
counted-part (Shadowed s a b t u) o = left-part (places (counted t o)) (positions t) (positions u) (counted-part t o)

acknowledged-part : (t : Plan) → IsPart (places (acknowledged t)) (positions t)
acknowledged-part (Send k) = whole-part (k.position ∷ [])
acknowledged-part (Reply x) = no-part []
acknowledged-part (Both t u) = parts-of (acknowledged t) (acknowledged u) (positions t) (positions u) (acknowledged-part t) (acknowledged-part u)
acknowledged-part (Beside t u) = parts-of (acknowledged t) (counted u nothing) (positions t) (positions u) (acknowledged-part t) (counted-part u nothing)
acknowledged-part (OnError t u) = parts-of (acknowledged t) (when_error (if_all Good t) (acknowledged u)) (positions t) (positions u) (acknowledged-part t) (part-when (if_all Good t) (acknowledged u) (positions u) (acknowledged-part u))
acknowledged-part (OnMiss t u) = no-part (positions t ++ positions u)
acknowledged-part (OnHit t u) = no-part (positions t ++ positions u)
acknowledged-part (Shadowed s a b t u) = left-part (places (acknowledged t)) (positions t) (positions u) (acknowledged-part t)

hits-part : (t : Plan) → IsPart (places (hits t)) (positions t)
hits-part (Send k) = whole-part (k.position ∷ [])
hits-part (Reply x) = no-part []
hits-part (Both t u) = part-of-both (hits t) (hits u) (positions t) (positions u) (hits-part t) (hits-part u)
hits-part (Beside t u) = left-part (places (hits t)) (positions t) (positions u) (hits-part t)
hits-part (OnError t u) = parts-of (hits t) (when_error (if_all Error t) (hits u)) (positions t) (positions u) (hits-part t) (part-when (if_all Error t) (hits u) (positions u) (hits-part u))
hits-part (OnMiss t u) = parts-of (hits t) (hits u) (positions t) (positions u) (hits-part t) (hits-part u)
hits-part (OnHit t u) = left-part (places (hits t)) (positions t) (positions u) (hits-part t)
hits-part (Shadowed s a b t u) = left-part (places (hits t)) (positions t) (positions u) (hits-part t)

pub acknowledged_rise : (t : Tree) (s : Situation) → IsRising (places (acknowledged (plan t s)))
acknowledged_rise t s = (acknowledged-part (plan t s)).rising (plan_rises t s)

pub hits_rise : (t : Tree) (s : Situation) → IsRising (places (hits (plan t s)))
hits_rise t s = (hits-part (plan t s)).rising (plan_rises t s)
