use Rattle.std.proofs.Common.{◌≡◌, map, take}
use Rattle.mcv_config.specs.ConfigValue.{named_of, shadow_of, prefix_of, policy_of}
use Rattle.mcv_route.specs.View.{view, operation_view, prefix_view, shadow_view}
use Rattle.mcv_route.specs.Walk.{IsBuilt, list_view}
use Rattle.mcv_route.proofs.build.+build.Given as goal

-- the children so far are built
abbrev pub invariant-build_children-loop-child : goal.invariant-build_children-loop-child
invariant-build_children-loop-child l =
    IsBuilt (map list_view l.lists) l.fn.symbols (map named_of (take l.child-index l.children)) l.symbols (map view l.routes.items)

-- the shadows so far are built, with their ranges
abbrev pub invariant-build_shadows-loop-shadow : goal.invariant-build_shadows-loop-shadow
invariant-build_shadows-loop-shadow l =
    (map (λ s. s.0) (map shadow_view l.built.items) ≡ map (λ s. s.0) (map shadow_of (take l.shadow-index l.shadows)))
    × IsBuilt (map list_view l.lists) l.fn.symbols (map (λ s. s.1) (map shadow_of (take l.shadow-index l.shadows))) l.symbols (map (λ s. s.1) (map shadow_view l.built.items))

-- the policies so far are built, with their prefixes
abbrev pub invariant-build_prefixes-loop-policy : goal.invariant-build_prefixes-loop-policy
invariant-build_prefixes-loop-policy l =
    (map (λ p. p.0) (map prefix_view l.built.items) ≡ map (λ p. p.0) (map prefix_of (take l.policy-index l.policies)))
    × IsBuilt (map list_view l.lists) l.fn.symbols (map (λ p. p.1) (map prefix_of (take l.policy-index l.policies))) l.symbols (map (λ p. p.1) (map prefix_view l.built.items))

-- the policies so far are built, with their operations
abbrev pub invariant-build_policies-loop-policy : goal.invariant-build_policies-loop-policy
invariant-build_policies-loop-policy l =
    (map (λ p. p.0) (map operation_view l.built.items) ≡ map (λ p. p.0) (map policy_of (take l.policy-index l.policies)))
    × IsBuilt (map list_view l.lists) l.fn.symbols (map (λ p. p.1) (map policy_of (take l.policy-index l.policies))) l.symbols (map (λ p. p.1) (map operation_view l.built.items))
