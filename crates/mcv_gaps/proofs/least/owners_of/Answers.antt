use Rattle.std.proofs.Common.{◌≡◌, ◌∙◌, ◌≤◌, ◌+◌, List, length, subst, sym, take, arith}
use Rattle.std.proofs.lemmas.List.{length-map, length-take-le, take_all}
use Rattle.mcv_gaps.specs.Least.{AreOwners, leg_missing, legs_missing}
use Rattle.mcv_gaps.specs.declared.missing.Missing.{Missing}
use Rattle.mcv_gaps.proofs.Mapped.{one_further}
use Rattle.mcv_gaps.proofs.Owners.{owned_by}
use Rattle.mcv_gaps.proofs.least.owners_of.Goals as goal

pub loop-number-preserved : goal.loop-number-preserved
loop-number-preserved c = λ x.
    let ms = c.args.missing.now in
    let i = c.loop-number.number in
    let m = c.index-missing-number.result in
    let low : i ≤ length ms = (let lt = c.loop-number-test.true in omega arith) in
    let count = length-map (take i ms) leg_missing ∙ length-take-le i ms low in
    owned_by (legs_missing (take i ms)) (leg_missing m) x i _ _ (legs_missing (take (i + 1) ms)) (sym count) (one_further leg_missing ms i m c.loop-number-test.true c.index-missing-number.is) (c.in_ok-own_servers.ensures x) (c.loop-number.invariant x)

pub returns : goal.returns
returns c = subst (λ (xs : List Missing). AreOwners c.loop-number.owners (legs_missing xs)) (take_all c.loop-number.number c.args.missing.now c.loop-number-test.false) c.loop-number.invariant
