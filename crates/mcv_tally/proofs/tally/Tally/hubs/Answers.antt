use Rattle.std.proofs.Common.{◌∙◌, ap, map}
use Rattle.mcv_metrics.specs.declared.snapshot.HubCounts.{HubCounts}
use Rattle.mcv_tally.proofs.Texts.{numbered_more}
use Rattle.mcv_tally.proofs.tally.Tally.hubs.Goals as goal

-- something is said of one hub more
pub loop-number-preserved : goal.loop-number-preserved
loop-number-preserved c = ap (map (λ (x : HubCounts). x.hub)) c.in_ok-push.ensures.items ∙ numbered_more c.loop-number.counts.items c.counts.result c.loop-number.number c.counts.ensures c.loop-number.invariant
