use Rattle.std.proofs.Common.{◌∙◌, ap}
use Rattle.mcv_hub.specs.RemainingEntries.{break_count}
use Rattle.mcv_hub.proofs.BreaksLeft.{table_breaks}
use Rattle.mcv_hub.proofs.state.count_breaks.Goals as goal

pub returns-clause-count : goal.returns-clause-count
returns-clause-count c = table_breaks c.routes.result.now c.breaks.result.now c.breaks.ensures ∙ ap break_count c.routes.ensures.value
