use Rattle.std.proofs.Common.{◌∙◌, ap, sym}
use Rattle.std.specs.Arc.{arc_value}
use Rattle.std.specs.Int.NonZero.{non_zero_usize_get}
use Rattle.mcv_core.specs.Opening.{opened_within}
use Rattle.mcv_hubs.specs.Choice.{records_at}
use Rattle.mcv_hubs.proofs.hubs.open.Goals as goal

pub new-requires-clause-opened : goal.new-requires-clause-opened
new-requires-clause-opened g c =
    c.requires.opened
    ∙ ap (λ r. opened_within (non_zero_usize_get c.args.stock.now.capacity.flights) r (records_at c.args.stock.now.choice.now c.args.hub c.args.stock.now.records.now)) (sym c.in-Ok.ensures)
    ∙ ap (opened_within (non_zero_usize_get c.args.stock.now.capacity.flights) (arc_value c.in-Ok.accepted)) (sym (c.as_slice-records.ensures.value ∙ c.in-Ok-records_at.ensures))
