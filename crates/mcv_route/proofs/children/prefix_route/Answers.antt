use Rattle.std.proofs.Common.{◌≡◌, sym, ap, ◌∙◌, arith, get_or, length, Some}
use Rattle.std.specs.Prelude.{slice_get}
use Rattle.mcv_route.specs.View.{view, last_view, prefix_view}
use Rattle.mcv_route.proofs.Views.{prefix_view-out}
use Rattle.mcv_route.proofs.HandleChildren.{policy-at, policy-past, policy-last}
use Rattle.mcv_route.proofs.children.prefix_route.Goals as goal

pub returns-then-number-prefixes : goal.returns-then-number-prefixes
returns-then-number-prefixes c =
    let prefixes = c.args.prefixes.now in
    let policy = get_or prefixes c.args.number c.index-prefixes-number.result in
    policy-at prefix_view prefixes c.args.wildcard.now c.args.number policy _ _ c.if-number-prefixes.true (ap (get_or prefixes c.args.number) c.index-prefixes-number.is) (prefix_view-out policy)

pub returns-then-number-prefixes-2 : goal.returns-then-number-prefixes-2
returns-then-number-prefixes-2 c = policy-past prefix_view c.args.prefixes.now c.args.wildcard.now c.args.number c.if-number-prefixes-2.true

pub returns-in-Some : goal.returns-in-Some
returns-in-Some c =
    let last : c.args.number ≡ length c.args.prefixes.now = omega (arith, c.if-number-prefixes.false, c.if-number-prefixes-2.false) in
    sym (policy-last prefix_view c.args.prefixes.now c.args.wildcard.now c.args.number last ∙ ap (λ o. slice_get (last_view o) 0) c.in-Some.is ∙ ap (λ r. Some (view r)) (sym c.deref.ensures))

pub returns-in-None : goal.returns-in-None
returns-in-None c =
    let last : c.args.number ≡ length c.args.prefixes.now = omega (arith, c.if-number-prefixes.false, c.if-number-prefixes-2.false) in
    sym (policy-last prefix_view c.args.prefixes.now c.args.wildcard.now c.args.number last ∙ ap (λ o. slice_get (last_view o) 0) c.in-None.is)
