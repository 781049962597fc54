use Rattle.std.proofs.Math.Logic.{∥∥₁_elim}
use Rattle.std.specs.Coded.{Coded-set}
use Rattle.mcv_rules.specs.contracts.arrival.Arrival.{the_row}
use Rattle.mcv_rules.proofs.outcomes.Outcomes.known.Goals as goal

pub returns : goal.returns
returns c = ∥∥₁_elim c.args.self.now.agrees (λ e f i j p. Coded-set the_row.coded _ _ (λ k. e k p) (λ k. f k p) i j) (λ e. e)
