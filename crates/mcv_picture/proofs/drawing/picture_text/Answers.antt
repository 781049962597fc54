use Rattle.std.proofs.Common.{◌∙◌, Bool, List, ℕ, Vec, Global, ap, map, subst, sym}
use Rattle.std.proofs.lemmas.Result.{IfOk-weaker}
use Rattle.mcv_draw.specs.Svg.{svg}
use Rattle.mcv_draw.specs.Walk.{elements_of}
use Rattle.mcv_picture.specs.Drawing.{IsPictureOf}
use Rattle.mcv_picture.proofs.drawing.picture_text.Goals as goal

pub returns-then-is_dot : goal.returns-then-is_dot
returns-then-is_dot c =
    let es = elements_of c.in_ok-picture.picture in
    IfOk-weaker c.dot.result _ _
    (λ text is. (es, c.in_ok-picture.ensures, subst (λ (b : Bool). IsPictureOf b es c.args.said.now text.items) (sym c.if-is_dot.true) is)) c.dot.ensures

pub returns : goal.returns
returns c =
    let es = elements_of c.in_ok-picture.picture in
    let notes = ap (λ (ns : List (Vec ℕ Global)). map (λ (n : Vec ℕ Global). n.items) ns) c.as_slice.ensures.value ∙ c.in_ok-notes.ensures in
    IfOk-weaker c.svg.result _ _
    (λ text is. (es, c.in_ok-picture.ensures, subst (λ (b : Bool). IsPictureOf b es c.args.said.now text.items) (sym c.if-is_dot.false) (is ∙ ap (svg es) notes))) c.svg.ensures
