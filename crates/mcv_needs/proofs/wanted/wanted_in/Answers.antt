use Rattle.std.proofs.Common.{List, length, refl, subst, sym}
use Rattle.std.proofs.lemmas.Option.{slice_get_read}
use Rattle.mcv_judge.specs.PairsInMemory.{legs_of}
use Rattle.mcv_judge.specs.declared.block.Leg.{Leg}
use Rattle.mcv_needs.specs.Wanted.{IsWantedIn}
use Rattle.mcv_needs.proofs.WantedBlocks.{wanted_none, wanted_some}
use Rattle.mcv_needs.proofs.wanted.wanted_in.Goals as goal

pub returns-then-not-can_be_acknowledged : goal.returns-then-not-can_be_acknowledged
returns-then-not-can_be_acknowledged c = λ r d is each near.
    let sets = c.args.sets.now in
    let era = c.args.era in
    let own = c.index-sets-era.result in
    let there = slice_get_read sets (length sets) era own refl c.requires.own c.index-sets-era.is in
    let acknowledged = legs_of c.in_ok-acknowledged.acknowledged.items in
    subst (λ (ls : List Leg). IsWantedIn r d era (record { readable = legs_of ls; acknowledged = acknowledged })) (sym c.new.ensures.items)
    (wanted_none r d is sets each era c.args.near.first c.args.near.end near c.requires.within own there acknowledged c.can_be_acknowledged.result c.in_ok-acknowledged.ensures c.can_be_acknowledged.ensures c.if-not-can_be_acknowledged.true)

pub returns : goal.returns
returns c = λ r d is each near.
    let sets = c.args.sets.now in
    let era = c.args.era in
    let own = c.index-sets-era.result in
    let there = slice_get_read sets (length sets) era own refl c.requires.own c.index-sets-era.is in
    let acknowledged = legs_of c.in_ok-acknowledged.acknowledged.items in
    wanted_some r d is sets each era c.args.near.first c.args.near.end near c.requires.within own there acknowledged c.can_be_acknowledged.result c.in_ok-acknowledged.ensures c.can_be_acknowledged.ensures (legs_of c.in_ok-readable.readable.items) c.if-not-can_be_acknowledged.false c.in_ok-readable.ensures
