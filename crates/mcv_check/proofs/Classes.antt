-- How far a certificate has been judged, from class to class.
use Rattle.std.proofs.Common.{◌≡◌, ℕ, ◌+◌, ◌<◌, ◌≤◌, List, [], ◌∷◌, ◌++◌, length, get_or, drop, sym, ◌∙◌, subst}
use Rattle.std.proofs.lemmas.List.{drop_all}
use Rattle.mcv_cert.specs.Pair.{PairValue}
use Rattle.mcv_judge.specs.Faults.{IsFaultless, IsFirstFault}
use Rattle.mcv_judge.specs.declared.fault.PairFault.{PairFault}
use Rattle.mcv_route.specs.Routes.{RoutesValue}
use Rattle.mcv_route.specs.declared.eras.NearEras.{NearEras}
use Rattle.mcv_blocks.specs.Blocks.{AreJustifiedPairs, IsFirstFaultOf}
use Rattle.mcv_blocks.specs.Places.{AreRouteClasses, IsRouteClass}
use Rattle.mcv_blocks.specs.Spots.{AreClassesInEras, AreNears, classes_in_eras, eras_near}
use Rattle.mcv_blocks.specs.declared.classes.RouteClass.{RouteClass}
use Rattle.mcv_blocks.proofs.BlocksOfSpots.{blocks_of_spots, spots_are, spots_behind}
use Rattle.mcv_blocks.proofs.SpotsInTurn.{next_item}
use Rattle.mcv_check.specs.Fault.{IsFaultOfPairs}
use Rattle.mcv_check.specs.Judgements.{IsJudged, Leaves, Stops}
use Rattle.mcv_check.specs.declared.fault.CheckFault.{CheckFault}
use Rattle.mcv_check.specs.declared.fault.CheckFault.TheVariants.{Memory, Pair, Window}
use Rattle.mcv_check.proofs.Steps.{IsFirstAt, brought-back, further, nothing_judged}

-- judged up to the classes left
pub record IsJudgedBefore (r : RoutesValue) (cs : List RouteClass) (xs : List NearEras) (pairs : List PairValue) (left : List RouteClass) (rest : List PairValue) : Type 0 where
  pub order : AreClassesInEras r (classes_in_eras left xs)
  pub judged : IsJudged r pairs (classes_in_eras cs xs) rest (classes_in_eras left xs)

module _ (r : RoutesValue) (cs : List RouteClass) (xs : List NearEras) (pairs : List PairValue) where
  pub first_class : AreRouteClasses r cs → AreNears r xs → IsJudgedBefore r cs xs pairs cs pairs
  first_class are near = record { order = spots_are r cs xs are near; judged = nothing_judged r pairs (classes_in_eras cs xs) }

  there : (k : ℕ) (c : RouteClass) → k < length cs → c ≡ get_or cs k c → (rest : List PairValue) → IsJudgedBefore r cs xs pairs (drop k cs) rest → IsJudgedBefore r cs xs pairs (c ∷ drop (k + 1) cs) rest
  there k c low is rest so_far = subst (λ left. IsJudgedBefore r cs xs pairs left rest) (next_item cs k c low is) so_far

  pub next_class : (k : ℕ) (c : RouteClass) → k < length cs → c ≡ get_or cs k c → (rest last : List PairValue) → IsJudgedBefore r cs xs pairs (drop k cs) rest → Leaves r rest (eras_near c 0 xs) last → IsJudgedBefore r cs xs pairs (drop (k + 1) cs) last
  next_class k c low is rest last so_far leaves =
      let later = classes_in_eras (drop (k + 1) cs) xs in
      let at = there k c low is rest so_far in
      record {
        order = spots_behind r (eras_near c 0 xs) later at.order;
        judged = further r pairs rest last (classes_in_eras cs xs) (eras_near c 0 xs ++ later) later at.judged (leaves later at.order);
      }

  module _ (are : AreRouteClasses r cs) (near : AreNears r xs) where
    reported : (fault : PairFault) → IsFirstAt r pairs (classes_in_eras cs xs) fault → IsFirstFaultOf r pairs fault
    reported fault h = (h.0, blocks_of_spots r cs xs h.0 are near h.1, h.2)

    pub class_stops : (k : ℕ) (c : RouteClass) → k < length cs → c ≡ get_or cs k c → (rest : List PairValue) → IsJudgedBefore r cs xs pairs (drop k cs) rest → (fault : CheckFault) → Stops r rest (eras_near c 0 xs) fault → IsFaultOfPairs r pairs fault
    class_stops k c low is rest so_far (Pair fault) stops =
        let later = classes_in_eras (drop (k + 1) cs) xs in
        let at = there k c low is rest so_far in
        reported fault (brought-back r pairs rest (classes_in_eras cs xs) (eras_near c 0 xs ++ later) fault at.judged (stops later at.order))
    class_stops k c low is rest so_far Memory stops = tt
    class_stops k c low is rest so_far Window stops = absurd stops

    -- no class is left
    pub all_classes : (rest : List PairValue) → IsJudgedBefore r cs xs pairs [] rest → IsFaultless rest [] → AreJustifiedPairs r pairs
    all_classes rest so_far none =
        let w = so_far.judged [] tt in
        (w.0, blocks_of_spots r cs xs w.0 are near w.1, λ s i. w.2 s i ∙ none s i)

    pub end_stops : (rest : List PairValue) → IsJudgedBefore r cs xs pairs [] rest → (fault : PairFault) → IsFirstFault rest [] fault → IsFirstFaultOf r pairs fault
    end_stops rest so_far fault first = reported fault (brought-back r pairs rest (classes_in_eras cs xs) [] fault so_far.judged ([], tt, first))

-- the class at a place of the list
pub class_at : (r : RoutesValue) (cs : List RouteClass) → AreRouteClasses r cs → (k : ℕ) (c : RouteClass) → k < length cs → c ≡ get_or cs k c → IsRouteClass r c
class_at r cs are k c low is = subst (IsRouteClass r) (sym is) (are.only k c low)

-- no class is left behind the last
pub past_classes : (r : RoutesValue) (cs : List RouteClass) (xs : List NearEras) (pairs : List PairValue) (k : ℕ) → length cs ≤ k → (rest : List PairValue) → IsJudgedBefore r cs xs pairs (drop k cs) rest → IsJudgedBefore r cs xs pairs [] rest
past_classes r cs xs pairs k high rest so_far = subst (λ left. IsJudgedBefore r cs xs pairs left rest) (drop_all k cs high) so_far
