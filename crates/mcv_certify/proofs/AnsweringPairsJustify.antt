-- Pairs that answer all blocks make a certificate, and it is justified.
use Rattle.std.proofs.Common.{◌≡◌, ◌<◌, ◌==◌, ◌||◌, not, ℕ, true, List, [], ◌∷◌, get_or, Option, Some, None, inl, inr, refl, sym, subst}
use Rattle.std.specs.List.{All}
use Rattle.std.proofs.lemmas.Bool.{cases_Bool, eq-eqb, eqb-true}
use Rattle.std.proofs.lemmas.List.Elements.{All-append, All-cons, All-nil, All-weaker}
use Rattle.std.proofs.lemmas.Option.{slice_get-get_or}
use Rattle.mcv_cert.specs.Pair.{HasEras, IsCertificate, NamesLegs, PairValue, PlaceValue, SpotValue, has_eras, ReasonValue, never, twin, same, all, names_legs}
use Rattle.mcv_judge.specs.Answers.{AnswersAll, AnswersBlock, AnswersLeaf, AreInTurn}
use Rattle.mcv_judge.specs.Reason.{BlockValue, LegValue, fault_of}
use Rattle.mcv_judge.specs.declared.fault.PairFault.{PairFault}
use Rattle.mcv_judge.specs.declared.fault.PairFault.TheVariants.{OtherServer}
use Rattle.mcv_judge.proofs.AnsweringPairs.{answered_faultless}
use Rattle.mcv_route.specs.Routes.{IsSoundRoutes, RoutesValue}
use Rattle.mcv_route.specs.declared.eras.NearEras.{NearEras}
use Rattle.mcv_route.specs.Eras.{IsEraOf, IsNear}
use Rattle.mcv_route.proofs.NearBreaks.{near_grows, one_number}
use Rattle.mcv_blocks.specs.Blocks.{IsBlockOf, IsJustifiedBy}
use Rattle.mcv_blocks.specs.Places.{AreRouteClasses}
use Rattle.mcv_blocks.specs.Spots.{AreNears, classes_in_eras}
use Rattle.mcv_blocks.specs.declared.classes.RouteClass.{RouteClass}
use Rattle.mcv_blocks.proofs.BlocksOfSpots.{blocks_of_spots, in_order, spots_are}
use Rattle.mcv_certify.specs.BlockSteps.{AddsFor}
use Rattle.mcv_certify.specs.PickedReasons.{IsPickedOf}

-- a reason without a fault names a leg where it has to
names : (b : BlockValue) (leaf : LegValue) (r : ReasonValue) → fault_of b leaf r ≡ None → names_legs r ≡ true
names b leaf never h = refl
names b leaf (twin leg) h = refl
names b leaf (same index leg) h = refl
names b leaf (all index []) h = absurd (let some : ◌≡◌ {A = Option PairFault} (Some OtherServer) None = h in cc)
names b leaf (all index (leg ∷ legs)) h = refl

in_turn_all : {X : Type 0} (P : X → List PairValue → Type 0) → ((x : X) (ps : List PairValue) → P x ps → All NamesLegs ps) → (xs : List X) (ps : List PairValue) → AreInTurn P xs ps → All NamesLegs ps
in_turn_all P each [] ps h = subst (All NamesLegs) (sym h) (All-nil NamesLegs)
in_turn_all P each (x ∷ xs) ps h = subst (All NamesLegs) (sym h.2) (All-append NamesLegs h.0 h.1 (each x h.0 h.3) (in_turn_all P each xs h.1 h.4))

leaf_names : (b : BlockValue) (leaf : LegValue) (ps : List PairValue) → AnswersLeaf b leaf ps → All NamesLegs ps
leaf_names b leaf ps (inl h) = subst (All NamesLegs) (sym h.1) (All-cons NamesLegs h.0 [] (names b leaf h.0.reason h.2.faultless) (All-nil NamesLegs))
leaf_names b leaf ps (inr h) = λ k d low. names b leaf (get_or ps k d).reason (h.each k (get_or ps k d) (slice_get-get_or ps k d low)).0.faultless

all_name : (blocks : List BlockValue) (ps : List PairValue) → AnswersAll blocks ps → All NamesLegs ps
all_name blocks ps h = in_turn_all AnswersBlock (λ b own a. in_turn_all (AnswersLeaf b) (leaf_names b) b.readable own a) blocks ps h

-- with no window a block has one era
one_era_each : (r : RoutesValue) (b : BlockValue) → IsBlockOf r b → r.window ≡ 0 → b.spot.get_era ≡ b.spot.era
one_era_each r b own none =
    let at_once : IsNear r 0 own.since own.read = subst (λ w. IsNear r w own.since own.read) none own.spot.near in
    let same : own.since ≡ own.read = (near_grows r 0 0 own.since own.read).0 at_once in
    one_number r b.spot.get_era b.spot.era own.since (subst (IsEraOf r b.spot.get_era) (sym same) own.spot.read_opened) own.spot.opened

has_eras_by : (w : ℕ) (s : SpotValue) → (w ≡ 0 → s.get_era ≡ s.era) → has_eras w s ≡ true
has_eras_by w s h = elim (cases_Bool (w == 0)) [
  | inl none ↦ rw none (eq-eqb s.get_era s.era (h (eqb-true w 0 none)))
  | inr some ↦ rw some refl
]

picked_has_eras : (r : RoutesValue) (p : PairValue) → IsPickedOf r p → HasEras r.window p
picked_has_eras r p own =
    let b = own.0 in
    let placed = own.2.2.place in
    subst (λ (q : PlaceValue). has_eras r.window q.spot ≡ true) (sym placed) (has_eras_by r.window b.spot (one_era_each r b own.1))

module _ (r : RoutesValue) (cs : List RouteClass) (xs : List NearEras) (ps : List PairValue) (sound : IsSoundRoutes r) (classes : AreRouteClasses r cs) (near : AreNears r xs) (h : AddsFor r (classes_in_eras cs xs) [] ps) where
  answers : AnswersAll h.blocks ps
  answers = subst (AnswersAll h.blocks) (sym h.adds.added) h.adds.have

  picked : All (IsPickedOf r) ps
  picked = subst (All (IsPickedOf r)) (sym h.picked.added) h.picked.have

  pub is_certificate : IsCertificate (record { window = r.window; pairs = ps })
  is_certificate = record {
    rising = (answered_faultless h.blocks ps (in_order r (classes_in_eras cs xs) h.blocks sound (spots_are r cs xs classes near) h.blocks_are) answers).0;
    legs = all_name h.blocks ps answers;
    eras = All-weaker (IsPickedOf r) (HasEras r.window) (λ p own. picked_has_eras r p own) ps picked;
  }

  pub is_justified : IsJustifiedBy r (record { window = r.window; pairs = ps })
  is_justified = (
    refl,
    (
      h.blocks,
      blocks_of_spots r cs xs h.blocks classes near h.blocks_are,
      (answered_faultless h.blocks ps (in_order r (classes_in_eras cs xs) h.blocks sound (spots_are r cs xs classes near) h.blocks_are) answers).1,
    ),
  )

-- pairs that were added to none
pub are_picked : (r : RoutesValue) (cs : List RouteClass) (xs : List NearEras) (ps : List PairValue) → AddsFor r (classes_in_eras cs xs) [] ps → All (IsPickedOf r) ps
are_picked r cs xs ps h = subst (All (IsPickedOf r)) (sym h.picked.added) h.picked.have
