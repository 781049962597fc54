use Rattle.std.proofs.Common.{ℕ, List, ◌∙◌, ap, sym}
use Rattle.std.specs.Prelude.{slice_get}
use Rattle.mcv_alike.proofs.Numbers.{lent_at, one_server}
use Rattle.mcv_alike.proofs.numbering.Numbering.is_server.Goals as goal

pub returns : goal.returns
returns c = λ r n numbered is.
    one_server r n c.args.self.now numbered c.args.old.0 c.args.new.0 c.in-Some.found.now
    (ap (λ (xs : List ℕ). slice_get xs c.args.old.0) (sym c.deref.ensures.value) ∙ lent_at c.deref.result.now c.args.old.0 c.in-Some.found c.in-Some.ensures.lookup) is
