use Rattle.std.proofs.lemmas.Result.{err_from_is_err_and}
use Rattle.mcv_picture.proofs.Verdicts.{drawn_covered, drawn_lost}
use Rattle.mcv_picture.proofs.drawing.drawn_routes.Goals as goal

pub returns-in_err-covered_drawing-in-Covered-clause-fault : goal.returns-in_err-covered_drawing-in-Covered-clause-fault
returns-in_err-covered_drawing-in-Covered-clause-fault c =
    let gone = err_from_is_err_and c.from_residual-in_err-covered_drawing-in-Covered.result c.from_residual-in_err-covered_drawing-in-Covered.ensures.1 in
    rw (gone.1) (gone.2)

pub returns-in_ok-covered_drawing-in-Covered-clause-drawn : goal.returns-in_ok-covered_drawing-in-Covered-clause-drawn
returns-in_ok-covered_drawing-in-Covered-clause-drawn c =
    let judged = rw c.in-Covered.is at c.in_ok-accepted.ensures.judged in
    let drawn = c.in_ok-covered_drawing-in-Covered in
    drawn_covered c.args.is_dot c.args.routes c.in-Covered.accepted c.in-Covered.certificate drawn.field-0.verdict drawn.field-0.text.items judged drawn.ensures.verdict drawn.ensures.text

pub returns-in_err-lost_drawing-in-Lost-clause-fault : goal.returns-in_err-lost_drawing-in-Lost-clause-fault
returns-in_err-lost_drawing-in-Lost-clause-fault c =
    let gone = err_from_is_err_and c.from_residual-in_err-lost_drawing-in-Lost.result c.from_residual-in_err-lost_drawing-in-Lost.ensures.1 in
    rw (gone.1) (gone.2)

pub returns-in_ok-lost_drawing-in-Lost-clause-drawn : goal.returns-in_ok-lost_drawing-in-Lost-clause-drawn
returns-in_ok-lost_drawing-in-Lost-clause-drawn c =
    let judged = rw c.in-Lost.is at c.in_ok-accepted.ensures.judged in
    let drawn = c.in_ok-lost_drawing-in-Lost in
    drawn_lost c.args.is_dot c.args.routes c.in-Lost.routes c.in-Lost.finding drawn.field-0.verdict drawn.field-0.text.items judged drawn.ensures.verdict drawn.ensures.text
