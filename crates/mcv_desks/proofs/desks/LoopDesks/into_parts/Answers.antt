use Rattle.std.proofs.Common.{◌≡◌, ◌∙◌, List, ap, subst}
use Rattle.std.specs.Prelude.{IfOk}
use Rattle.mcv_hub.specs.declared.receipts.Receipt.{Receipt}
use Rattle.mcv_desks.specs.Open.{DesksView}
use Rattle.mcv_desks.proofs.desks.LoopDesks.into_parts.Goals as goal

pub returns-clause-seats : goal.returns-clause-seats
returns-clause-seats g c = c.into_parts.ensures.seats ∙ ap (λ (v : DesksView). v.tallies) c.self.view_is

pub returns-clause-receipts : goal.returns-clause-receipts
returns-clause-receipts g c = subst (λ (v : DesksView). IfOk c.into_parts.result.1 (λ r. r.items ≡ v.receipts)) c.self.view_is c.into_parts.ensures.receipts
