use Rattle.std.proofs.Common.{◌≡◌, List, ℕ, subst}
use Rattle.std.specs.Prelude.{OnOk}
use Rattle.mcv_route.specs.View.{view, operation_view, prefix_view, shadow_view}
use Rattle.mcv_route.specs.declared.tree.Shadow.{out-Shadow}
use Rattle.mcv_route.specs.declared.tree.PrefixPolicy.{out-PrefixPolicy}
use Rattle.mcv_route.specs.declared.tree.OperationPolicy.{out-OperationPolicy}
use Rattle.mcv_route.proofs.Views.{operation_view-out, prefix_view-out, shadow_view-out}
use Rattle.mcv_classes.specs.Table.{bytes_of}
use Rattle.mcv_classes.proofs.PolicyPrefixes.{words-more, words-more-of, prefixes-of-PrefixSelector, prefixes-of-OperationSelector}
use Rattle.mcv_classes.proofs.words.+words.Goals as goal

pub push_words-returns-in_ok-push_selected-in-PrefixSelector : goal.push_words-returns-in_ok-push_selected-in-PrefixSelector
push_words-returns-in_ok-push_selected-in-PrefixSelector t c =
    let whole = prefixes-of-PrefixSelector c.args.route.now c.in-PrefixSelector.policies c.in-PrefixSelector.wildcard c.deref-in-PrefixSelector.result.now c.deref-in-PrefixSelector-2.result.now
    (bytes_of c.args.words.now.items) (bytes_of c.push_prefixes.new.words.items) (bytes_of c.push_selected.new.words.items)
    c.in-PrefixSelector.is c.deref-in-PrefixSelector.ensures.value c.deref-in-PrefixSelector-2.ensures.value c.in_ok-push_prefixes-in-PrefixSelector.ensures c.in_ok-push_selected-in-PrefixSelector.ensures in
    subst (λ (ws : List (List ℕ)). OnOk c.push_last.result (bytes_of c.push_last.new.words.items ≡ ws)) whole c.push_last.ensures

pub push_words-returns-in_ok-push_policies-in-OperationSelector : goal.push_words-returns-in_ok-push_policies-in-OperationSelector
push_words-returns-in_ok-push_policies-in-OperationSelector t c =
    let whole = prefixes-of-OperationSelector c.args.route.now c.in-OperationSelector.policies c.in-OperationSelector.default_policy c.deref-in-OperationSelector.result.now
    (bytes_of c.args.words.now.items) (bytes_of c.push_policies.new.words.items) c.in-OperationSelector.is c.deref-in-OperationSelector.ensures.value c.in_ok-push_policies-in-OperationSelector.ensures in
    subst (λ (ws : List (List ℕ)). OnOk c.push_last-in-OperationSelector.result (bytes_of c.push_last-in-OperationSelector.new.words.items ≡ ws)) whole c.push_last-in-OperationSelector.ensures

pub push_children-loop-child-preserved : goal.push_children-loop-child-preserved
push_children-loop-child-preserved t c =
    words-more view c.args.children.now c.loop-child.child-index c.child-item.result (bytes_of c.args.words.now.items) (bytes_of c.loop-child.words.items) (bytes_of c.push_words.new.words.items)
    c.loop-child-test.true c.child-item.is c.loop-child.invariant c.in_ok-push_words.ensures

pub push_shadows-loop-shadow-preserved : goal.push_shadows-loop-shadow-preserved
push_shadows-loop-shadow-preserved t c =
    words-more-of shadow_view c.args.shadows.now c.loop-shadow.shadow-index c.shadow-item.result _ (view (out-Shadow c.shadow-item.result).target) (bytes_of c.args.words.now.items) (bytes_of c.loop-shadow.words.items) (bytes_of c.push_words.new.words.items)
    c.loop-shadow-test.true c.shadow-item.is (shadow_view-out c.shadow-item.result) c.loop-shadow.invariant c.in_ok-push_words.ensures

pub push_selected-loop-policy-preserved : goal.push_selected-loop-policy-preserved
push_selected-loop-policy-preserved t c =
    words-more-of prefix_view c.args.policies.now c.loop-policy.policy-index c.policy-item.result _ (view (out-PrefixPolicy c.policy-item.result).route) (bytes_of c.args.words.now.items) (bytes_of c.loop-policy.words.items) (bytes_of c.push_words.new.words.items)
    c.loop-policy-test.true c.policy-item.is (prefix_view-out c.policy-item.result) c.loop-policy.invariant c.in_ok-push_words.ensures

pub push_policies-loop-policy-preserved : goal.push_policies-loop-policy-preserved
push_policies-loop-policy-preserved t c =
    words-more-of operation_view c.args.policies.now c.loop-policy.policy-index c.policy-item.result _ (view (out-OperationPolicy c.policy-item.result).route) (bytes_of c.args.words.now.items) (bytes_of c.loop-policy.words.items) (bytes_of c.push_words.new.words.items)
    c.loop-policy-test.true c.policy-item.is (operation_view-out c.policy-item.result) c.loop-policy.invariant c.in_ok-push_words.ensures
