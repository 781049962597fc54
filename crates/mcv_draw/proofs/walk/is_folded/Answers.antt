use Rattle.std.proofs.Common.{◌∙◌, ◌&&◌, ◌||◌, Bool, ap, nat_le, not}
use Rattle.mcv_draw.specs.Marks.{marks_of}
use Rattle.mcv_draw.proofs.walk.is_folded.Goals as goal

pub returns : goal.returns
returns c =
    c.folds.ensures
    ∙ ap (λ (shown : Bool). c.args.parent.now.is_folded || (nat_le 60 c.args.number && not shown)) (c.shows.ensures ∙ ap (marks_of c.args.marks.now).shown c.requires)
