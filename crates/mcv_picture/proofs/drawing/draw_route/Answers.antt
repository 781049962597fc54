use Rattle.std.proofs.Common.{◌∙◌, ◌++◌, List, ℕ, ap}
use Rattle.std.proofs.lemmas.Result.{on_ok_weaker}
use Rattle.mcv_draw.specs.Drawn.{DrawingValue, drawn, top}
use Rattle.mcv_draw.specs.Element.{rows_of}
use Rattle.mcv_draw.specs.Marks.{marks_of}
use Rattle.mcv_draw.specs.Walk.{elements_of}
use Rattle.mcv_route.specs.View.{view}
use Rattle.mcv_picture.proofs.drawing.draw_route.Goals as goal

pub returns : goal.returns
returns c =
    let marks = marks_of c.in_ok-marks.marks in
    let with : List (List ℕ) → DrawingValue = λ servers. record { number = c.args.number; servers = servers; marks = marks } in
    on_ok_weaker c.draw.result
    (λ drew. (marks, c.in_ok-marks.ensures, drew ∙ ap (λ (servers : List (List ℕ)). elements_of c.args.picture.now ++ drawn (with servers) top (rows_of (elements_of c.args.picture.now)) (view c.args.route.now)) c.servers-servers.ensures.value))
    c.draw.ensures
