use Rattle.std.proofs.Common.{◌≡◌, drop, map}
use Rattle.mcv_route.specs.View.{operation_view, prefix_view, trees_of}
use Rattle.mcv_rules.specs.PlanInMemory.{children_of, targets_of}
use Rattle.mcv_witness.specs.LongestWord.{longest_below}
use Rattle.mcv_witness.proofs.class_word.+longest.Given as goal

-- what is found so far, and the routes that are left, give the whole
abbrev pub invariant-longest_of_selected-loop-policy : goal.invariant-longest_of_selected-loop-policy
invariant-longest_of_selected-loop-policy l =
    longest_below l.most l.rest (trees_of (map (λ p. p.1) (map prefix_view (drop l.policy-index l.policies)))) ≡ longest_below l.fn.before l.rest (trees_of (map (λ p. p.1) (map prefix_view l.policies)))

abbrev pub invariant-longest_of_policies-loop-policy : goal.invariant-longest_of_policies-loop-policy
invariant-longest_of_policies-loop-policy l =
    longest_below l.most l.rest (trees_of (map (λ p. p.1) (map operation_view (drop l.policy-index l.policies)))) ≡ longest_below l.fn.before l.rest (trees_of (map (λ p. p.1) (map operation_view l.policies)))

abbrev pub invariant-longest_of_shadows-loop-shadow : goal.invariant-longest_of_shadows-loop-shadow
invariant-longest_of_shadows-loop-shadow l = longest_below l.most l.rest (targets_of (drop l.shadow-index l.shadows)) ≡ longest_below l.fn.before l.rest (targets_of l.shadows)

abbrev pub invariant-longest_of_children-loop-child : goal.invariant-longest_of_children-loop-child
invariant-longest_of_children-loop-child l = longest_below l.most l.rest (children_of (drop l.child-index l.children)) ≡ longest_below l.fn.before l.rest (children_of l.children)
