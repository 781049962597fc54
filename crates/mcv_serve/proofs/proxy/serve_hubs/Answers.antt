use Rattle.std.proofs.Common.{◌∙◌, ap, sym}
use Rattle.std.specs.Arc.{arc_value}
use Rattle.mcv_core.specs.Opening.{opened_within}
use Rattle.mcv_hubs.specs.Choice.{records_at}
use Rattle.mcv_serve.proofs.proxy.serve_hubs.Goals as goal

-- each hub is opened with the records of its keys
pub open_hubs-requires-clause-opened : goal.open_hubs-requires-clause-opened
open_hubs-requires-clause-opened g c = λ hub.
    c.requires.opened hub ∙ ap (λ records. opened_within 64 (arc_value c.args.hubs.0) (records_at c.args.hubs.1 hub records)) (sym c.as_slice.ensures.value)
