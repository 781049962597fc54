use Rattle.std.proofs.Common.{◌≡◌, ◌∙◌, ◌∷◌, ◌++◌, [], ap, arith, map, refl, vec_len}
use Rattle.mcv_route.specs.View.{view}
use Rattle.mcv_draw.specs.Drawn.{top}
use Rattle.mcv_draw.specs.Element.{rows_of}
use Rattle.mcv_draw.specs.Walk.{branch_of, drawing_of, elements_of, handle_of}
use Rattle.mcv_draw.proofs.DrawnInTurn.{all_drawn, fewer, first_handle, handle, none_seen, same_handle, seen_last, turn}
use Rattle.mcv_draw.proofs.walk.draw.Goals as goal

pub loop-next-init : goal.loop-next-init
loop-next-init c =
    let tree = view c.args.route.now in
    let one =
    seen_last handle_of c.new-pending.result.items c.push.new.self.items _ (handle top tree) c.in_ok-push.ensures.items (same_handle (branch_of c.top-branch.result) top tree c.top-branch.ensures) in
    first_handle (drawing_of c.args.drawing.now) (elements_of c.args.picture.now) (map handle_of c.push.new.self.items) top tree
    (one ∙ ap (λ xs. map handle_of xs ++ handle top tree ∷ []) c.new-pending.ensures.items)

pub loop-next-preserved : goal.loop-next-preserved
loop-next-preserved c =
    turn (drawing_of c.args.drawing.now) (elements_of c.loop-next.picture) (elements_of c.draw_next.new.picture) (map handle_of c.loop-next.pending.items) (map handle_of c.pop.new.self.items)
    (map handle_of c.draw_next.new.pending.items) (handle_of c.in-Some.next) (seen_last handle_of c.pop.new.self.items c.loop-next.pending.items c.in-Some.next _ c.in-Some.ensures.items refl)
    c.in_ok-draw_next.ensures.element c.in_ok-draw_next.ensures.pending
    ∙ c.loop-next.invariant

pub loop-next-smaller : goal.loop-next-smaller
loop-next-smaller c =
    fewer (drawing_of c.args.drawing.now) (elements_of c.loop-next.picture) (elements_of c.draw_next.new.picture) (map handle_of c.loop-next.pending.items) (map handle_of c.pop.new.self.items)
    (map handle_of c.draw_next.new.pending.items) (handle_of c.in-Some.next) (seen_last handle_of c.pop.new.self.items c.loop-next.pending.items c.in-Some.next _ c.in-Some.ensures.items refl)
    c.in_ok-draw_next.ensures.element c.in_ok-draw_next.ensures.pending

pub returns : goal.returns
returns c =
    let none_left : vec_len c.loop-next.pending ≡ 0 = (rw c.in_default.is at c.pop.ensures.cases).0 in
    all_drawn (drawing_of c.args.drawing.now) (map handle_of c.loop-next.pending.items) (elements_of c.loop-next.picture) _ (rows_of (elements_of c.loop-next.picture))
    (none_seen handle_of c.loop-next.pending.items (omega (arith, none_left, c.loop-next.pending.ok))) c.loop-next.invariant
