use Rattle.std.proofs.Common.{ℕ, List, ◌∙◌, ap, sym}
use Rattle.std.specs.Prelude.{slice_get}
use Rattle.mcv_alike.proofs.Numbers.{lent_at, one_symbol}
use Rattle.mcv_alike.proofs.numbering.Numbering.is_symbol.Goals as goal

pub returns : goal.returns
returns c = λ r n numbered is.
    one_symbol r n c.args.self.now numbered c.args.old c.args.new c.in-Some.found.now
    (ap (λ (xs : List (ℕ × ℕ)). slice_get xs c.args.old) (sym c.deref.ensures.value) ∙ lent_at c.deref.result.now c.args.old c.in-Some.found c.in-Some.ensures.lookup) is
