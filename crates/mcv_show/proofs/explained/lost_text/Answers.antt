use Rattle.std.proofs.Common.{◌∙◌, ◌++◌, List, ℕ, ap}
use Rattle.mcv_explain.specs.Explanation.{explanation}
use Rattle.mcv_explain.specs.Scene.{scene_of}
use Rattle.mcv_show.proofs.explained.lost_text.Goals as goal

pub returns : goal.returns
returns c =
    let added = c.in_ok-push_explanation.ensures in
    let more = explanation (scene_of c.args.scene.now) added.0 in
    (added.0, added.1, added.2 ∙ ap (λ (xs : List ℕ). xs ++ more) c.in_ok-text.ensures)
