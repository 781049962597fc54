use Rattle.std.proofs.Common.{◌≡◌, ◌++◌, map, take}
use Rattle.mcv_route.specs.Eras.{breaks_each}
use Rattle.mcv_route.specs.View.{view, operation_view, prefix_view, shadow_view, trees_of}
use Rattle.mcv_route.proofs.moments.+moments.Given as goal

-- the breaks of those so far are there
abbrev pub invariant-push_children-loop-child : goal.invariant-push_children-loop-child
invariant-push_children-loop-child l = l.moments.items ≡ l.fn.moments.items ++ breaks_each (trees_of (map view (take l.child-index l.children)))

abbrev pub invariant-push_shadows-loop-shadow : goal.invariant-push_shadows-loop-shadow
invariant-push_shadows-loop-shadow l = l.moments.items ≡ l.fn.moments.items ++ breaks_each (trees_of (map (λ s. s.1) (map shadow_view (take l.shadow-index l.shadows))))

abbrev pub invariant-push_prefixes-loop-policy : goal.invariant-push_prefixes-loop-policy
invariant-push_prefixes-loop-policy l = l.moments.items ≡ l.fn.moments.items ++ breaks_each (trees_of (map (λ p. p.1) (map prefix_view (take l.policy-index l.policies))))

abbrev pub invariant-push_policies-loop-policy : goal.invariant-push_policies-loop-policy
invariant-push_policies-loop-policy l = l.moments.items ≡ l.fn.moments.items ++ breaks_each (trees_of (map (λ p. p.1) (map operation_view (take l.policy-index l.policies))))
