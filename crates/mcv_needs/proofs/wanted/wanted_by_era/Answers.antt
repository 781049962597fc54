use Rattle.std.proofs.Common.{◌∙◌, List, ap, length, subst, sym}
use Rattle.std.proofs.lemmas.List.{length-map}
use Rattle.mcv_gaps.specs.Gaps.{wanted_of, wanteds_of}
use Rattle.mcv_route.specs.declared.eras.NearEras.{NearEras}
use Rattle.mcv_needs.specs.Wanted.{AreNearsOf, AreWithin}
use Rattle.mcv_needs.proofs.EraSets.{wanted_of_all, within}
use Rattle.mcv_needs.proofs.wanted.wanted_by_era.Goals as goal

pub wanted_in_each-requires : goal.wanted_in_each-requires
wanted_in_each-requires c =
    subst (λ (xs : List NearEras). AreWithin c.args.sets.now xs) (sym c.as_slice.ensures.value) (within c.args.routes.now c.args.sets.now c.in_ok-nears.nears.items c.requires c.in_ok-nears.ensures)

pub returns : goal.returns
returns c = λ d is from.
    let r = c.args.routes.now in
    let nears = c.in_ok-nears.nears.items in
    let all = c.in_ok-all.all.items in
    let many = length-map all wanted_of ∙ c.in_ok-all.ensures.many ∙ ap length c.as_slice.ensures.value in
    wanted_of_all r d nears (wanteds_of all) c.in_ok-nears.ensures many (c.in_ok-all.ensures.each r d is from (subst (λ (xs : List NearEras). AreNearsOf r xs) (sym c.as_slice.ensures.value) c.in_ok-nears.ensures.each))
