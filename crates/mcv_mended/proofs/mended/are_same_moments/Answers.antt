use Rattle.std.proofs.Common.{◌≡◌, ◌∙◌, ◌<◌, ◌≤◌, List, ap, length, map, sym, arith}
use Rattle.std.proofs.lemmas.List.{take_all}
use Rattle.mcv_base.specs.declared.request.Moment.{Moment}
use Rattle.mcv_mended.proofs.SameClasses.{moments_more}
use Rattle.mcv_mended.proofs.mended.are_same_moments.Goals as goal

pub loop-number-preserved : goal.loop-number-preserved
loop-number-preserved c =
    let test = c.loop-number-test.true in
    let lt : c.loop-number.number < length c.args.ones.now = omega arith in
    let less : c.loop-number.number < length c.args.others.now = omega arith in
    moments_more c.args.ones.now c.args.others.now c.loop-number.number (record { 0 = 0 }) (record { 0 = 0 }) lt less c.loop-number.invariant (omega arith)

pub returns : goal.returns
returns c = λ _.
    let past = c.loop-number-test.false in
    let first : length c.args.ones.now ≤ c.loop-number.number = omega arith in
    let second : length c.args.others.now ≤ c.loop-number.number = omega arith in
    ap (λ (ms : List Moment). map (λ (m : Moment). m.0) ms) (sym (take_all c.loop-number.number c.args.ones.now first)) ∙ c.loop-number.invariant
    ∙ ap (λ (ms : List Moment). map (λ (m : Moment). m.0) ms) (take_all c.loop-number.number c.args.others.now second)
