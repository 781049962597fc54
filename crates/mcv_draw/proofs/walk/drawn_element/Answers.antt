use Rattle.mcv_route.specs.View.{view}
use Rattle.mcv_draw.specs.Walk.{branch_of, drawing_of}
use Rattle.mcv_draw.proofs.MadeOfParts.{element_made}
use Rattle.mcv_draw.proofs.walk.drawn_element.Goals as goal

pub returns : goal.returns
returns c =
    element_made (drawing_of c.args.drawing.now) (branch_of c.args.next.branch) c.args.row (view c.args.next.route.now) _ _ _ c.row_of-row.ensures c.in_ok-label.ensures c.at-marked.ensures
