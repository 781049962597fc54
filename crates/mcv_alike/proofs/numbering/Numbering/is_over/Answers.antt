use Rattle.std.proofs.Common.{ℕ, List, ◌∙◌, ap, sym}
use Rattle.std.specs.Prelude.{slice_get}
use Rattle.mcv_alike.proofs.Numbers.{lent_at, over}
use Rattle.mcv_alike.proofs.numbering.Numbering.is_over.Goals as goal

pub returns : goal.returns
returns c = λ r n numbered is.
    over r n c.args.self.now numbered c.args.symbol c.args.count c.in-Some.found.now
    (ap (λ (xs : List (ℕ × ℕ)). slice_get xs c.args.symbol) (sym c.deref.ensures.value) ∙ lent_at c.deref.result.now c.args.symbol c.in-Some.found c.in-Some.ensures.lookup) is
