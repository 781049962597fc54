use Rattle.std.proofs.Common.{ap, map, ◌∙◌}
use Rattle.std.specs.Prelude.{find}
use Rattle.mcv_picks.specs.Picks.{borrowed}
use Rattle.mcv_picks.specs.Tables.{is_at}
use Rattle.mcv_picks.proofs.TwinsAreEqual.{is_at-twins}
use Rattle.mcv_picks.proofs.tables.Tables.new.Goals as goal

pub invariant_of-tables : goal.invariant_of-tables
invariant_of-tables c = (
  λ k. c.in_ok-by_class.ensures.table k,
  λ q. c.in_ok-by_slot.ensures q ∙ ap (λ xs. find (is_at q) (map borrowed xs)) c.as_slice.ensures.value ∙ c.in_ok-by_class.ensures.firsts (is_at q) (is_at-twins q),
)
