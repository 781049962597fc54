use Rattle.std.proofs.Common.{List, ℕ, subst}
use Rattle.mcv_mend.specs.Kept.{IsKeptIn}
use Rattle.mcv_mend.proofs.run.kept_in.Goals as goal

pub returns-then-is_kept-clause-kept : goal.returns-then-is_kept-clause-kept
returns-then-is_kept-clause-kept c = subst (λ (xs : List ℕ). IsKeptIn c.args.input.now xs) c.as_slice.ensures.value (c.is_kept.ensures c.if-is_kept.true)
