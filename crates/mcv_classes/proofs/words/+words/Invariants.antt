use Rattle.std.proofs.Common.{◌≡◌, ◌++◌, map, take}
use Rattle.mcv_route.specs.View.{view, operation_view, prefix_view, shadow_view, trees_of}
use Rattle.mcv_classes.specs.Table.{bytes_of}
use Rattle.mcv_classes.specs.Words.{prefixes_below}
use Rattle.mcv_classes.proofs.words.+words.Given as goal

-- the prefixes of those so far are there
abbrev pub invariant-push_children-loop-child : goal.invariant-push_children-loop-child
invariant-push_children-loop-child l = bytes_of l.words.items ≡ bytes_of l.fn.words.items ++ prefixes_below (trees_of (map view (take l.child-index l.children)))

abbrev pub invariant-push_shadows-loop-shadow : goal.invariant-push_shadows-loop-shadow
invariant-push_shadows-loop-shadow l = bytes_of l.words.items ≡ bytes_of l.fn.words.items ++ prefixes_below (trees_of (map (λ s. s.1) (map shadow_view (take l.shadow-index l.shadows))))

abbrev pub invariant-push_selected-loop-policy : goal.invariant-push_selected-loop-policy
invariant-push_selected-loop-policy l = bytes_of l.words.items ≡ bytes_of l.fn.words.items ++ prefixes_below (trees_of (map (λ p. p.1) (map prefix_view (take l.policy-index l.policies))))

abbrev pub invariant-push_policies-loop-policy : goal.invariant-push_policies-loop-policy
invariant-push_policies-loop-policy l = bytes_of l.words.items ≡ bytes_of l.fn.words.items ++ prefixes_below (trees_of (map (λ p. p.1) (map operation_view (take l.policy-index l.policies))))
