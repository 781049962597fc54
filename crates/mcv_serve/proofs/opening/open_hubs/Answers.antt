use Rattle.std.proofs.Common.{◌∙◌, ap, sym}
use Rattle.std.specs.Arc.{arc_value}
use Rattle.mcv_core.specs.Opening.{opened_within}
use Rattle.mcv_hubs.specs.Choice.{records_at}
use Rattle.mcv_serve.proofs.opening.open_hubs.Goals as goal

-- each hub is opened with the records of its keys
pub new-opened-requires-clause-opened : goal.new-opened-requires-clause-opened
new-opened-requires-clause-opened g c = λ hub.
    c.requires.opened hub ∙ ap (λ limit. opened_within limit (arc_value c.args.accepted) (records_at c.args.choice hub c.args.records.now)) (sym c.flights.ensures)
