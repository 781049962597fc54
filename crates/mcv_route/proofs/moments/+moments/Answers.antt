use Rattle.std.proofs.Common.{◌≡◌, ℕ, List, refl, subst, append-nil}
use Rattle.std.specs.Prelude.{OnOk}
use Rattle.mcv_route.specs.View.{view, operation_view, prefix_view, shadow_view}
use Rattle.mcv_route.specs.declared.tree.Shadow.{out-Shadow}
use Rattle.mcv_route.specs.declared.tree.PrefixPolicy.{out-PrefixPolicy}
use Rattle.mcv_route.specs.declared.tree.OperationPolicy.{out-OperationPolicy}
use Rattle.mcv_route.proofs.Views.{operation_view-out, prefix_view-out, shadow_view-out}
use Rattle.mcv_route.proofs.HandleChildren.{breaks-more, breaks-Pool, breaks-Null, breaks-Error, breaks-more-of, breaks-Many, breaks-of-PrefixSelector, breaks-of-OperationSelector}
use Rattle.mcv_route.proofs.moments.+moments.Goals as goal

pub push_breaks-returns-in-Pool : goal.push_breaks-returns-in-Pool
push_breaks-returns-in-Pool t c = rw (c.in-Pool.is, breaks-Pool, ← c.deref.ensures.value) c.push_shadows.ensures

pub push_breaks-returns-in-Null : goal.push_breaks-returns-in-Null
push_breaks-returns-in-Null t c = rw (c.in-Null.is, breaks-Null, append-nil) refl

pub push_breaks-returns-in-Error : goal.push_breaks-returns-in-Error
push_breaks-returns-in-Error t c = rw (c.in-Error.is, breaks-Error, append-nil) refl

pub push_breaks-returns-in-Many : goal.push_breaks-returns-in-Many
push_breaks-returns-in-Many t c = rw (c.in-Many.is, breaks-Many, ← c.deref-in-Many.ensures.value) c.push_children.ensures

pub push_breaks-returns-in_ok-push_prefixes-in-PrefixSelector : goal.push_breaks-returns-in_ok-push_prefixes-in-PrefixSelector
push_breaks-returns-in_ok-push_prefixes-in-PrefixSelector t c =
    let whole = breaks-of-PrefixSelector c.args.route.now c.in-PrefixSelector.policies c.in-PrefixSelector.wildcard c.deref-in-PrefixSelector.result.now c.args.moments.now.items c.push_prefixes.new.moments.items
    c.in-PrefixSelector.is c.deref-in-PrefixSelector.ensures.value c.in_ok-push_prefixes-in-PrefixSelector.ensures in
    subst (λ (bs : List ℕ). OnOk c.push_last.result (c.push_last.new.moments.items ≡ bs)) whole c.push_last.ensures

pub push_breaks-returns-in_ok-push_policies-in-OperationSelector : goal.push_breaks-returns-in_ok-push_policies-in-OperationSelector
push_breaks-returns-in_ok-push_policies-in-OperationSelector t c =
    let whole = breaks-of-OperationSelector c.args.route.now c.in-OperationSelector.policies c.in-OperationSelector.default_policy c.deref-in-OperationSelector.result.now c.args.moments.now.items c.push_policies.new.moments.items
    c.in-OperationSelector.is c.deref-in-OperationSelector.ensures.value c.in_ok-push_policies-in-OperationSelector.ensures in
    subst (λ (bs : List ℕ). OnOk c.push_last-in-OperationSelector.result (c.push_last-in-OperationSelector.new.moments.items ≡ bs)) whole c.push_last-in-OperationSelector.ensures

pub push_children-loop-child-preserved : goal.push_children-loop-child-preserved
push_children-loop-child-preserved t c =
    breaks-more view c.args.children.now c.loop-child.child-index c.child-item.result c.args.moments.now.items c.loop-child.moments.items c.push_breaks.new.moments.items c.loop-child-test.true c.child-item.is c.loop-child.invariant c.in_ok-push_breaks.ensures

pub push_shadows-loop-shadow-preserved : goal.push_shadows-loop-shadow-preserved
push_shadows-loop-shadow-preserved t c =
    breaks-more-of shadow_view c.args.shadows.now c.loop-shadow.shadow-index c.shadow-item.result _ (view (out-Shadow c.shadow-item.result).target) c.args.moments.now.items c.loop-shadow.moments.items c.push_breaks.new.moments.items
    c.loop-shadow-test.true c.shadow-item.is (shadow_view-out c.shadow-item.result) c.loop-shadow.invariant c.in_ok-push_breaks.ensures

pub push_prefixes-loop-policy-preserved : goal.push_prefixes-loop-policy-preserved
push_prefixes-loop-policy-preserved t c =
    breaks-more-of prefix_view c.args.policies.now c.loop-policy.policy-index c.policy-item.result _ (view (out-PrefixPolicy c.policy-item.result).route) c.args.moments.now.items c.loop-policy.moments.items c.push_breaks.new.moments.items
    c.loop-policy-test.true c.policy-item.is (prefix_view-out c.policy-item.result) c.loop-policy.invariant c.in_ok-push_breaks.ensures

pub push_policies-loop-policy-preserved : goal.push_policies-loop-policy-preserved
push_policies-loop-policy-preserved t c =
    breaks-more-of operation_view c.args.policies.now c.loop-policy.policy-index c.policy-item.result _ (view (out-OperationPolicy c.policy-item.result).route) c.args.moments.now.items c.loop-policy.moments.items c.push_breaks.new.moments.items
    c.loop-policy-test.true c.policy-item.is (operation_view-out c.policy-item.result) c.loop-policy.invariant c.in_ok-push_breaks.ensures

pub push_last-returns-in-None : goal.push_last-returns-in-None
push_last-returns-in-None t c = rw (c.in-None.is, append-nil) refl

pub push_last-returns-in-Some : goal.push_last-returns-in-Some
push_last-returns-in-Some t c = rw (c.in-Some.is, append-nil, ← c.deref.ensures) c.push_breaks.ensures
