use Rattle.std.proofs.Common.{◌∙◌, List, ap, sym, subst}
use Rattle.std.proofs.lemmas.Result.{IfOk-weaker}
use Rattle.mcv_blocks.specs.Sets.{SetsValue}
use Rattle.mcv_blocks.specs.SetsInEras.{AreSetsFrom}
use Rattle.mcv_gaps.specs.Gaps.{AreAllSizedBy, AreLeastFor, wanteds_of}
use Rattle.mcv_gaps.specs.declared.gaps.Wanted.{Wanted}
use Rattle.mcv_judge.specs.PairsInMemory.{legs_of}
use Rattle.mcv_judge.specs.Reason.{LegValue}
use Rattle.mcv_route.specs.View.{view}
use Rattle.mcv_symbolic.specs.CoveredRoutes.{sizes_of}
use Rattle.mcv_needs.specs.Needs.{AreLeast}
use Rattle.mcv_needs.proofs.ClassNeeds.{all_sized, least_of, no_member, no_route, positive}
use Rattle.mcv_needs.specs.Wanted.{HaveEachEra}
use Rattle.mcv_needs.proofs.EraSets.{sets_of_class}
use Rattle.mcv_needs.proofs.needs.needed_legs.Goals as goal

pub returns-in_default : goal.returns-in_default
returns-in_default c = λ is. absurd (no_route c.args.routes.now c.args.class.now (rw c.in_default.is at c.route.ensures) is)

pub returns-in_default-member : goal.returns-in_default-member
returns-in_default-member c = λ is. absurd (no_member c.args.routes.now c.args.class.now (rw c.in_default-member.is at c.member.ensures) is)

pub wanted_by_era-requires : goal.wanted_by_era-requires
wanted_by_era-requires c = subst (λ (xs : List SetsValue). HaveEachEra c.args.routes.now xs) (sym c.as_slice.ensures.value) c.in_ok-sets.ensures.all

pub returns : goal.returns
returns c =
    let r = c.args.routes.now in
    let class = c.args.class.now in
    let sets = c.in_ok-sets.sets.items in
    let ws = wanteds_of c.in_ok-wanted.wanted.items in
    let sound = c.symbols-symbols.ensures.sound in
    let sizes = sizes_of r in
    IfOk-weaker c.owned.result _ _
    (λ legs same. λ is.
    let from = sets_of_class r class (view c.in-Some.route.now) c.in-Some-member.member sets c.in-Some.ensures c.in-Some-member.ensures c.in_ok-sets.ensures.each in
    let are = c.in_ok-wanted.ensures class is (subst (λ (xs : List SetsValue). AreSetsFrom r class 0 xs) (sym c.as_slice.ensures.value) from) in
    let sized = all_sized r sound class ws are (positive r c.symbols-symbols.ensures.some) in
    let least : AreLeastFor sizes ws (legs_of c.in_ok-legs.legs.items) = subst (λ (xs : List Wanted). AreLeastFor sizes (wanteds_of xs) (legs_of c.in_ok-legs.legs.items)) c.as_slice-2.ensures.value
    (c.in_ok-legs.ensures sizes (subst (λ (xs : List Wanted). AreAllSizedBy sizes (wanteds_of xs)) (sym c.as_slice-2.ensures.value) sized)) in
    subst (λ (ls : List LegValue). AreLeast r class.route class.class.word ls) (sym (same ∙ ap legs_of c.as_slice-3.ensures.value)) (least_of r sound class ws are (legs_of c.in_ok-legs.legs.items) least))
    c.owned.ensures
