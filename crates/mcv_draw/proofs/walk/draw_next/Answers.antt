use Rattle.std.proofs.Common.{◌≡◌, ◌∙◌, ◌∷◌, ◌++◌, [], ℕ, ap, map, subst}
use Rattle.std.specs.Prelude.{OnOk}
use Rattle.mcv_route.specs.View.{view}
use Rattle.mcv_draw.specs.Drawn.{element}
use Rattle.mcv_draw.specs.Element.{ElementValue}
use Rattle.mcv_draw.specs.Marks.{marks_of}
use Rattle.mcv_draw.specs.Walk.{branch_of, children_back, drawing_of, elements_of, handle_of}
use Rattle.mcv_draw.proofs.MadeOfParts.{on_ok}
use Rattle.mcv_draw.proofs.walk.draw_next.Goals as goal

pub returns-clause-element : goal.returns-clause-element
returns-clause-element c =
    subst (λ (e : ElementValue). OnOk c.push.result (elements_of c.push.new.self ≡ elements_of c.args.picture.now ++ e ∷ []))
    (c.in_ok-element.ensures ∙ ap (λ (row : ℕ). element (drawing_of c.args.drawing.now) (branch_of c.args.next.branch) row (view c.args.next.route.now)) c.args.picture.now.counted) c.push.ensures

pub returns-clause-pending : goal.returns-clause-pending
returns-clause-pending c =
    on_ok c.push.result _
    (subst (λ (row : ℕ). map handle_of c.push_children.new.pending.items
    ≡ map handle_of c.args.pending.now.items ++ children_back (marks_of c.args.drawing.now.marks.now) (branch_of c.args.next.branch) row (view c.args.next.route.now))
    c.args.picture.now.counted c.in_ok-push_children.ensures)
