use Rattle.std.proofs.Common.{ℕ, ◌++◌, [], List, subst, arith}
use Rattle.std.proofs.lemmas.List.{append-nil}
use Rattle.mcv_text.specs.Request.{refused}
use Rattle.mcv_text.specs.declared.item.Refusal.TheVariants as refusals
use Rattle.mcv_text.specs.Stream.{Begins, Failed}
use Rattle.mcv_text.proofs.Ends.{too_long_begins}
use Rattle.mcv_text.proofs.reader.line_goes_on.Goals as goal

pub returns-then-used-len-clause-steps : goal.returns-then-used-len-clause-steps
returns-then-used-len-clause-steps c =
    let piece = c.args.piece.now in
    subst (λ (t : List ℕ). Begins (c.args.line.now.items ++ t) (refused refusals.BadLine) Failed) (append-nil piece)
    (too_long_begins c.args.line.now.items piece [] c.requires.line c.requires.no_end (omega arith))
