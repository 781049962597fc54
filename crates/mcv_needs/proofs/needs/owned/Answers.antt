use Rattle.std.proofs.Common.{◌≡◌, ◌∙◌, ◌++◌, ◌∷◌, [], List, ap, ap₂, sym}
use Rattle.std.proofs.lemmas.List.{map-append, take_all}
use Rattle.mcv_alike.specs.Numbers.{leg_value, legs_value}
use Rattle.mcv_alike.specs.declared.needed.NeededLeg.{NeededLeg}
use Rattle.mcv_judge.specs.PairsInMemory.{leg_of, legs_of, numbers}
use Rattle.mcv_judge.specs.Reason.{LegValue}
use Rattle.mcv_gaps.proofs.Mapped.{one_further}
use Rattle.mcv_needs.proofs.needs.owned.Goals as goal

pub loop-leg-preserved : goal.loop-leg-preserved
loop-leg-preserved c =
    let leg = c.leg-item.result in
    let m : NeededLeg = record { position = c.in_ok-position.position; symbol = leg.symbol; servers = c.in_ok-servers.servers } in
    let own : leg_value m ≡ leg_of leg = λ k. record { position = c.in_ok-position.ensures k; symbol = leg.symbol; servers = numbers (c.in_ok-servers.ensures.items k) } in
    ap legs_value c.in_ok-push.ensures.items
    ∙ map-append leg_value c.loop-leg.all.items (m ∷ [])
    ∙ ap₂ (λ (ls : List LegValue) (l : LegValue). ls ++ l ∷ []) c.loop-leg.invariant own
    ∙ sym (one_further leg_of c.args.legs.now c.loop-leg.leg-index leg c.loop-leg-test.true c.leg-item.is)

pub returns : goal.returns
returns c = c.loop-leg.invariant ∙ ap legs_of (take_all c.loop-leg.leg-index c.args.legs.now c.loop-leg-test.false)
