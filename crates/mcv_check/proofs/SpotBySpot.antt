-- How far a certificate has been judged, from spot to spot of a list.
use Rattle.std.proofs.Common.{◌≡◌, List, [], ◌∷◌, ◌++◌, append_assoc, sym, subst}
use Rattle.mcv_cert.specs.Pair.{PairValue}
use Rattle.mcv_route.specs.Routes.{RoutesValue}
use Rattle.mcv_blocks.specs.Spots.{AreClassesInEras, ClassInEras}
use Rattle.mcv_blocks.proofs.BlocksOfSpots.{spots_behind}
use Rattle.mcv_check.specs.Judgements.{IsJudged, Leaves, Stops}
use Rattle.mcv_check.specs.declared.fault.CheckFault.{CheckFault}
use Rattle.mcv_check.specs.declared.fault.CheckFault.TheVariants.{Memory, Pair, Window}
use Rattle.mcv_check.proofs.Steps.{brought-back, further, nothing_judged}

-- judged up to the spots that are left
abbrev pub IsJudgedUpTo : RoutesValue → (all : List ClassInEras) → List PairValue → (left : List ClassInEras) → List PairValue → Type 0
IsJudgedUpTo r all pairs left rest = (more : List ClassInEras) → AreClassesInEras r (all ++ more) → AreClassesInEras r (left ++ more) × IsJudged r pairs (all ++ more) rest (left ++ more)

module _ (r : RoutesValue) (all : List ClassInEras) (pairs : List PairValue) where
  pub from_first : IsJudgedUpTo r all pairs all pairs
  from_first more order = (order, nothing_judged r pairs (all ++ more))

  here : (ss left : List ClassInEras) (now : List ClassInEras) (rest : List PairValue) → now ≡ ss ++ left → IsJudgedUpTo r all pairs now rest → (more : List ClassInEras) → AreClassesInEras r (all ++ more)
      → AreClassesInEras r (ss ++ (left ++ more)) × IsJudged r pairs (all ++ more) rest (ss ++ (left ++ more))
  here ss left now rest is so_far more order =
      subst (λ ts. AreClassesInEras r ts × IsJudged r pairs (all ++ more) rest ts) (append_assoc ss left more) (subst (λ ts. AreClassesInEras r (ts ++ more) × IsJudged r pairs (all ++ more) rest (ts ++ more)) is (so_far more order))

  -- the next of them are behind
  pub past_next : (ss left now : List ClassInEras) (rest last : List PairValue) → now ≡ ss ++ left → IsJudgedUpTo r all pairs now rest → Leaves r rest ss last → IsJudgedUpTo r all pairs left last
  past_next ss left now rest last is so_far leaves more order =
      let at = here ss left now rest is so_far more order in
      (spots_behind r ss (left ++ more) at.0, further r pairs rest last (all ++ more) (ss ++ (left ++ more)) (left ++ more) at.1 (leaves (left ++ more) at.0))

  -- a fault at the next of them is the first
  pub next_stops : (ss left now : List ClassInEras) (rest : List PairValue) → now ≡ ss ++ left → IsJudgedUpTo r all pairs now rest → (fault : CheckFault) → Stops r rest ss fault → Stops r pairs all fault
  next_stops ss left now rest is so_far (Pair fault) stops = λ more order.
      let at = here ss left now rest is so_far more order in
      brought-back r pairs rest (all ++ more) (ss ++ (left ++ more)) fault at.1 (stops (left ++ more) at.0)
  next_stops ss left now rest is so_far Memory stops = tt
  next_stops ss left now rest is so_far Window stops = absurd stops

  -- none is left
  pub past_all : (now : List ClassInEras) (rest : List PairValue) → now ≡ [] → IsJudgedUpTo r all pairs now rest → Leaves r pairs all rest
  past_all now rest is so_far more order = (subst (λ ts. AreClassesInEras r (ts ++ more) × IsJudged r pairs (all ++ more) rest (ts ++ more)) is (so_far more order)).1
