-- How far a certificate has been judged, one step on.
use Rattle.std.proofs.Common.{List, [], ◌∷◌, refl, ◌∙◌}
use Rattle.std.specs.List.{AllZip}
use Rattle.mcv_cert.specs.Pair.{PairValue}
use Rattle.mcv_judge.specs.Faults.{AreInOrder, HaveSameFaults, IsFirstFault}
use Rattle.mcv_judge.specs.Reason.{BlockValue}
use Rattle.mcv_judge.specs.declared.fault.PairFault.{PairFault}
use Rattle.mcv_judge.proofs.Bridge.{carried}
use Rattle.mcv_route.specs.Routes.{IsSoundRoutes, RoutesValue}
use Rattle.mcv_blocks.specs.Spots.{IsBlockFor, ClassInEras}
use Rattle.mcv_blocks.proofs.BlocksOfSpots.{in_order}
use Rattle.mcv_blocks.proofs.BlockAtEachSpot.{blocks_exist}
use Rattle.mcv_check.specs.Judgements.{IsJudged, Leaves, Stops}
use Rattle.mcv_check.specs.declared.fault.CheckFault.TheVariants.{Pair}

-- ---- one block

module _ (r : RoutesValue) (sound : IsSoundRoutes r) (s : ClassInEras) (b : BlockValue) (is : IsBlockFor r s b) (pairs : List PairValue) where
  pub block_leaves : (rest : List PairValue) → ((later : List BlockValue) → AreInOrder (b ∷ later) → HaveSameFaults pairs (b ∷ later) rest later) → Leaves r pairs (s ∷ []) rest
  block_leaves rest same more order later z = (b ∷ later, (is, z), same later (in_order r (s ∷ more) (b ∷ later) sound order (is, z)))

  pub block_stops : (fault : PairFault) → ((later : List BlockValue) → AreInOrder (b ∷ later) → IsFirstFault pairs (b ∷ later) fault) → Stops r pairs (s ∷ []) (Pair fault)
  block_stops fault first more order =
      let later = blocks_exist r more order.2 in
      (b ∷ later.0, (is, later.1), first later.0 (in_order r (s ∷ more) (b ∷ later.0) sound order (is, later.1)))

-- ---- steps

pub nothing_judged : (r : RoutesValue) (pairs : List PairValue) (all : List ClassInEras) → IsJudged r pairs all pairs all
nothing_judged r pairs all later z = (later, z, λ s i. refl)

pub further : (r : RoutesValue) (pairs rest last : List PairValue) (all mid left : List ClassInEras) → IsJudged r pairs all rest mid → IsJudged r rest mid last left → IsJudged r pairs all last left
further r pairs rest last all mid left f g later z =
    let m = g later z in
    let w = f m.0 m.1 in
    (w.0, w.1, λ s i. w.2 s i ∙ m.2 s i)

-- a fault at spots
abbrev pub IsFirstAt : RoutesValue → List PairValue → List ClassInEras → PairFault → Type 0
IsFirstAt r pairs ss fault = (blocks : List BlockValue) × AllZip (IsBlockFor r) ss blocks × IsFirstFault pairs blocks fault

pub brought-back : (r : RoutesValue) (pairs rest : List PairValue) (all left : List ClassInEras) (fault : PairFault) → IsJudged r pairs all rest left → IsFirstAt r rest left fault → IsFirstAt r pairs all fault
brought-back r pairs rest all left fault f h =
    let w = f h.0 h.1 in
    (w.0, w.1, carried pairs rest w.0 h.0 fault w.2 h.2)
