use Rattle.std.proofs.Common.{◌≡◌, ◌∙◌, ◌<◌, ◌+◌, ◌++◌, ◌↔◌, ℕ, List, ap, length, refl, subst, sym, arith}
use Rattle.std.specs.List.{Contains}
use Rattle.std.proofs.lemmas.List.{map-append}
use Rattle.std.proofs.lemmas.Option.{slice_get_read}
use Rattle.mcv_judge.specs.PairsInMemory.{leg_of, legs_of}
use Rattle.mcv_judge.specs.Reason.{LegValue}
use Rattle.mcv_judge.specs.declared.block.Leg.{Leg}
use Rattle.mcv_needs.specs.Wanted.{IsReadNear}
use Rattle.mcv_needs.proofs.EraSets.{near_more, near_none}
use Rattle.mcv_needs.proofs.wanted.readable_near.Goals as goal

pub loop-era-init : goal.loop-era-init
loop-era-init c = λ leaf. subst (λ (ls : List Leg). Contains (legs_of ls) leaf ↔ IsReadNear c.args.sets.now c.args.near.first c.args.near.first leaf) (sym c.new-all.ensures.items) (near_none c.args.sets.now c.args.near.first leaf)

pub loop-era-preserved : goal.loop-era-preserved
loop-era-preserved c = λ leaf.
    let sets = c.args.sets.now in
    let first = c.args.near.first in
    let era = c.loop-era.era in
    let own = c.index-sets-era.result in
    let old = c.loop-era.all.items in
    let legs = c.in_ok-legs.legs.items in
    let test = c.loop-era-test.true in
    let end = c.requires.within in
    let lt : era < length sets = omega (arith, test, end) in
    let there = slice_get_read sets (length sets) era own refl lt c.index-sets-era.is in
    let items = c.in_ok-extend_from_slice.ensures.items ∙ ap (λ (xs : List Leg). old ++ xs) c.as_slice.ensures.value in
    subst (λ (ls : List LegValue). Contains ls leaf ↔ IsReadNear sets first (era + 1) leaf) (sym (ap legs_of items ∙ map-append leg_of old legs))
    (near_more sets first era own (legs_of old) (legs_of legs) c.loop-era.auto.era there c.in_ok-legs.ensures c.loop-era.invariant leaf)

pub returns : goal.returns
returns c =
    let past = c.loop-era-test.false in
    let ordered = c.requires.ordered in
    let e : c.loop-era.era ≡ c.args.near.end = omega arith in
    λ leaf. subst (λ (n : ℕ). Contains (legs_of c.loop-era.all.items) leaf ↔ IsReadNear c.args.sets.now c.args.near.first n leaf) e (c.loop-era.invariant leaf)
