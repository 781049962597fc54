use Rattle.std.proofs.Common.{◌≡◌, sym, ap, ◌∙◌, arith, get_or, length, Some}
use Rattle.std.specs.Prelude.{slice_get}
use Rattle.mcv_route.specs.View.{view, last_view, operation_view}
use Rattle.mcv_route.proofs.Views.{operation_view-out}
use Rattle.mcv_route.proofs.HandleChildren.{policy-at, policy-past, policy-last}
use Rattle.mcv_route.proofs.children.policy_route.Goals as goal

pub returns-then-number-policies : goal.returns-then-number-policies
returns-then-number-policies c =
    let policies = c.args.policies.now in
    let policy = get_or policies c.args.number c.index-policies-number.result in
    policy-at operation_view policies c.args.default_policy.now c.args.number policy _ _ c.if-number-policies.true (ap (get_or policies c.args.number) c.index-policies-number.is) (operation_view-out policy)

pub returns-then-number-policies-2 : goal.returns-then-number-policies-2
returns-then-number-policies-2 c = policy-past operation_view c.args.policies.now c.args.default_policy.now c.args.number c.if-number-policies-2.true

pub returns-in-Some : goal.returns-in-Some
returns-in-Some c =
    let last : c.args.number ≡ length c.args.policies.now = omega (arith, c.if-number-policies.false, c.if-number-policies-2.false) in
    sym (policy-last operation_view c.args.policies.now c.args.default_policy.now c.args.number last ∙ ap (λ o. slice_get (last_view o) 0) c.in-Some.is ∙ ap (λ r. Some (view r)) (sym c.deref.ensures))

pub returns-in-None : goal.returns-in-None
returns-in-None c =
    let last : c.args.number ≡ length c.args.policies.now = omega (arith, c.if-number-policies.false, c.if-number-policies-2.false) in
    sym (policy-last operation_view c.args.policies.now c.args.default_policy.now c.args.number last ∙ ap (λ o. slice_get (last_view o) 0) c.in-None.is)
