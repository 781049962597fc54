use Rattle.std.proofs.Common.{◌∙◌, ◌++◌, List, ℕ, Bor, Vec, Global, ap, map}
use Rattle.std.specs.List.{flat_map}
use Rattle.mcv_picture.specs.Drawing.{if_line}
use Rattle.mcv_picture.proofs.notes.lines_of.Goals as goal

pub returns : goal.returns
returns c =
    let below = flat_map if_line (map (λ (p : Bor (List ℕ)). p.now) c.as_slice.result.now) in
    c.in_ok-push_lines.ensures
    ∙ (ap (λ (xs : List (Vec ℕ Global)). map (λ (l : Vec ℕ Global). l.items) xs ++ below) c.new-lines.ensures.items
    ∙ (ap (λ (ps : List (Bor (List ℕ))). flat_map if_line (map (λ (p : Bor (List ℕ)). p.now) ps)) c.as_slice.ensures.value ∙ ap (flat_map if_line) c.in_ok-parts.ensures))
