use Rattle.std.proofs.Common.{◌≡◌, ◌<◌, ◌≤◌, ◌∙◌, inl, inr, ℕ, Option, Some, option_map, subst, sym, arith}
use Rattle.std.proofs.lemmas.Bool.{cases_lt}
use Rattle.mcv_alike.specs.Numbers.{legs_value}
use Rattle.mcv_base.specs.declared.request.Moment.{Moment}
use Rattle.mcv_route.specs.Eras.{IsEraOf}
use Rattle.mcv_route.specs.View.{view}
use Rattle.mcv_route.proofs.BreakTables.{one_era}
use Rattle.mcv_mended.specs.Members.{IsAskedWell}
use Rattle.mcv_mended.proofs.mended.is_member_mended.Goals as goal

pub loop-era-init : goal.loop-era-init
loop-era-init c = λ n numbered era since lt is op. absurd (omega (arith, lt))

pub loop-era-preserved : goal.loop-era-preserved
loop-era-preserved c = λ n numbered era since lt is op.
    let r = c.args.routes.now in
    let now = c.loop-era.era in
    let opened = option_map (λ (m : Moment). m.0) c.opened.result in
    let t = view c.args.sides.now.before.now in
    let u = view c.args.sides.now.after.now in
    elim (cases_lt era now) [
      | inl below ↦ c.loop-era.invariant n numbered era since below is op
      | inr above ↦
          let e : era ≡ now = omega arith in
          let here : IsEraOf r now since = subst (λ k. IsEraOf r k since) e is in
          let same = one_era r now opened since (c.opened.ensures.some (since, here)) here in
          subst (λ (s : Option ℕ). IsAskedWell r n t u c.args.rest.now s (legs_value c.args.legs.now) op) same (c.in_ok-fine.ensures r n numbered c.if-not-fine.false op)
    ]

pub returns : goal.returns
returns c = λ n numbered _ era since is op.
    let low = (c.era_count-era-end.ensures era).1 (since, is) in
    let past = c.loop-era-test.false in
    c.loop-era.invariant n numbered era since (omega (arith, low, past)) is op
