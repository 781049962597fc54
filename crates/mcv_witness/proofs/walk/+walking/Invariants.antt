use Rattle.std.proofs.Common.{◌≡◌, suc, [], drop}
use Rattle.mcv_route.specs.Children.{rest_of}
use Rattle.mcv_rules.specs.PlanInMemory.{children_of, ranges_of, situation_at, targets_of}
use Rattle.mcv_witness.specs.Walk.{gather, known_of, shade, walked_each}
use Rattle.mcv_witness.specs.declared.seen.Join.TheVariants.{Beside}
use Rattle.mcv_witness.proofs.walk.+walking.Given as goal

-- what is seen so far, and the children that are left, give the whole
abbrev pub invariant-walk_rest-loop-number : goal.invariant-walk_rest-loop-number
invariant-walk_rest-loop-number l =
    let s = situation_at l.asked [] in
    gather l.how (suc l.number) (walked_each l.sought (children_of (drop l.number l.others)) s) l.seen (known_of l.rest) ≡ gather l.how 1 (rest_of (walked_each l.sought (children_of l.fn.children) s)) l.fn.before (known_of l.fn.known)

abbrev pub invariant-walk_unheard-loop-number : goal.invariant-walk_unheard-loop-number
invariant-walk_unheard-loop-number l =
    let s = situation_at l.asked [] in
    gather Beside l.number (walked_each l.sought (children_of (drop l.number l.children)) s) l.seen (known_of l.rest) ≡ gather Beside 0 (walked_each l.sought (children_of l.children) s) l.initial.seen (known_of l.fn.known)

abbrev pub invariant-walk_shadows-loop-number : goal.invariant-walk_shadows-loop-number
invariant-walk_shadows-loop-number l =
    let s = situation_at l.asked [] in
    shade l.index l.number (ranges_of (drop l.number l.shadows)) (walked_each l.sought (targets_of (drop l.number l.shadows)) s) l.seen (known_of l.rest)
    ≡ shade l.index 0 (ranges_of l.shadows) (walked_each l.sought (targets_of l.shadows) s) l.fn.before (known_of l.fn.known)
