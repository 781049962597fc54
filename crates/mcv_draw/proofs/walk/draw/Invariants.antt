use Rattle.std.proofs.Common.{◌≡◌, ◌++◌, length, map}
use Rattle.mcv_route.specs.View.{view}
use Rattle.mcv_draw.specs.Drawn.{drawn, top}
use Rattle.mcv_draw.specs.Element.{rows_of}
use Rattle.mcv_draw.specs.Walk.{drawing_of, elements_of, handle_of}
use Rattle.mcv_draw.proofs.DrawnInTurn.{still}
use Rattle.mcv_draw.proofs.walk.draw.Given as goal

-- the elements so far, and those that are still to come, are the whole
abbrev pub invariant-loop-next : goal.invariant-loop-next
invariant-loop-next l = elements_of l.picture ++ still (drawing_of l.drawing) (map handle_of l.pending.items) (rows_of (elements_of l.picture))
    ≡ elements_of l.fn.picture ++ drawn (drawing_of l.drawing) top (rows_of (elements_of l.fn.picture)) (view l.route)

abbrev pub decreases-loop-next : goal.decreases-loop-next
decreases-loop-next l = length (still (drawing_of l.drawing) (map handle_of l.pending.items) (rows_of (elements_of l.picture)))
