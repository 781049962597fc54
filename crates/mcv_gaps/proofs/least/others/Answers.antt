use Rattle.std.proofs.Common.{◌≡◌, ◌∙◌, ◌++◌, ◌∷◌, [], List, ap, append_assoc, sym, take}
use Rattle.std.proofs.lemmas.List.{map-append}
use Rattle.mcv_judge.specs.PairsInMemory.{leg_of, legs_of}
use Rattle.mcv_judge.specs.Reason.{LegValue}
use Rattle.mcv_gaps.specs.Least.{leg_missing, legs_missing}
use Rattle.mcv_gaps.proofs.Mapped.{one_further}
use Rattle.mcv_gaps.proofs.least.others.Goals as goal

pub loop-one-preserved : goal.loop-one-preserved
loop-one-preserved c =
    let rest = c.args.rest.now in
    let i = c.loop-one.one-index in
    let m = c.one-item.result in
    ap legs_of c.in_ok-push.ensures.items
    ∙ map-append leg_of c.loop-one.legs.items (m.leg ∷ [])
    ∙ ap (λ (xs : List LegValue). xs ++ leg_missing m ∷ []) c.loop-one.invariant
    ∙ append_assoc (legs_of c.args.kept.now) (legs_missing (take i rest)) (leg_missing m ∷ [])
    ∙ ap (λ (xs : List LegValue). legs_of c.args.kept.now ++ xs) (sym (one_further leg_missing rest i m c.loop-one-test.true c.one-item.is))
