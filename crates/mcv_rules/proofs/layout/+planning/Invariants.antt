use Rattle.std.proofs.Common.{[], map, take}
use Rattle.mcv_route.specs.Situation.{asynchronous, shadowed, under}
use Rattle.mcv_route.specs.Tree.{none, null, pool}
use Rattle.mcv_route.specs.View.{pool_view, shadow_view, view}
use Rattle.mcv_rules.specs.PlanInMemory.{ServeEach, Serves, situation_at}
use Rattle.mcv_rules.proofs.BesidePlans.{LedBy, child_legs, first_of, shadow_legs}
use Rattle.mcv_rules.proofs.layout.+planning.Given as goal

-- the plans so far serve the children so far
abbrev pub invariant-each_laid_out-loop-number : goal.invariant-each_laid_out-loop-number
invariant-each_laid_out-loop-number l = ServeEach 0 l.plans.items (map view (take l.number l.children)) (situation_at l.asked l.position)

-- the first plan serves the first child, and the rest so far sends the legs of the others so far
abbrev pub invariant-first_waited_for-loop-number : goal.invariant-first_waited_for-loop-number
invariant-first_waited_for-loop-number l =
    let s = situation_at l.fn.asked l.position in
    LedBy (λ p. Serves p (first_of (map view l.fn.children)) (under 0 s)) l.plans.items (child_legs 1 (map view (take l.number l.others)) (asynchronous s))

abbrev pub invariant-none_waited_for-loop-number : goal.invariant-none_waited_for-loop-number
invariant-none_waited_for-loop-number l =
    let s = situation_at l.fn.asked l.position in
    LedBy (λ p. Serves p null s) l.plans.items (child_legs 0 (map view (take l.number l.children)) (asynchronous s))

-- the first plan serves the pool alone, and the rest so far sends the legs of the shadows so far
abbrev pub invariant-with_shadows-loop-number : goal.invariant-with_shadows-loop-number
invariant-with_shadows-loop-number l =
    let s = situation_at l.fn.asked l.position in
    LedBy (λ p. Serves p (pool (pool_view l.leaf) [] none) s) l.plans.items (shadow_legs l.leaf.symbol 0 (map shadow_view (take l.number l.shadows)) (shadowed s))
