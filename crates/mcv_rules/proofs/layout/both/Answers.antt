use Rattle.std.proofs.Common.{[], ◌∷◌}
use Rattle.mcv_rules.proofs.Serving.{serves-all}
use Rattle.mcv_rules.proofs.layout.both.Goals as goal

pub returns : goal.returns
returns c = λ t u s f g. serves-all _ (t ∷ u ∷ []) s (rw c.in_ok-pair.ensures (f, (g, tt)))
