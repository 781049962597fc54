use Rattle.std.proofs.Common.{◌≡◌, ℕ, List, Bor, map, IfOk, ap, subst, ◌∙◌}
use Rattle.mcv_text.specs.Line.{meaning, said}
use Rattle.mcv_text.specs.ParsedLine.{line_value}
use Rattle.mcv_text.proofs.line.meaning_of.Goals as goal

pub returns-clause-means : goal.returns-clause-means
unfolding meaning
returns-clause-means c =
    let e = ap (map (λ (w : Bor (List ℕ)). w.now)) c.as_slice.ensures.value ∙ c.in_ok-words.ensures in
    subst (λ (ws : List (List ℕ)). IfOk c.said_by.result (λ m. line_value m ≡ said ws)) e c.said_by.ensures.means
