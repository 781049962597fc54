use Rattle.std.proofs.Common.{◌∙◌, ap, ◌∷◌, [], length, length-append, option_map, subst, sym, arith}
use Rattle.mcv_alike.proofs.Numbers.{grown}
use Rattle.mcv_base.specs.declared.request.Moment.{Moment}
use Rattle.mcv_route.specs.View.{view}
use Rattle.mcv_needs.specs.Wanted.{AreSetsByEra, AreSetsIn}
use Rattle.mcv_needs.proofs.EraSets.{none_yet, sets_are}
use Rattle.mcv_needs.proofs.wanted.sets_in_eras.Goals as goal

pub loop-era-init : goal.loop-era-init
loop-era-init c =
    let r = c.args.routes.now in
    let t = view c.args.route.now in
    let rest = c.args.rest.now in
    let items = c.in_ok-all.ensures.items in
    record { many = ap length items; each = subst (AreSetsByEra r t rest) (sym items) (none_yet (AreSetsIn r t rest)) }

pub loop-era-preserved : goal.loop-era-preserved
loop-era-preserved c =
    let r = c.args.routes.now in
    let t = view c.args.route.now in
    let rest = c.args.rest.now in
    let old = c.loop-era.all.items in
    let x = c.in_ok-sets.sets in
    let items = c.in_ok-push.ensures.items in
    let own = sets_are r t rest c.loop-era.era (option_map (λ (m : Moment). m.0) c.opened.result) x c.in_ok-sets.ensures c.opened.ensures.some in
    let many = c.loop-era.invariant.many in
    record {
      many = ap length items ∙ omega (arith, length-append old (x ∷ []), many);
      each = subst (AreSetsByEra r t rest) (sym items) (grown (AreSetsIn r t rest) old x c.loop-era.invariant.each (subst (λ k. AreSetsIn r t rest k x) (sym many) own));
    }

pub returns-clause-all : goal.returns-clause-all
returns-clause-all c = λ era has.
    let low = (c.era_count-count.ensures era).1 has in
    let past = c.loop-era-test.false in
    let many = c.loop-era.invariant.many in
    omega (arith, low, past, many)
