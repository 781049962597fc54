use Rattle.std.proofs.Common.{List, Ok, ap}
use Rattle.std.specs.Prelude.{Vec}
use Rattle.std.specs.declared.alloc.Global.{Global}
use Rattle.mcv_hub.specs.declared.receipts.Receipt.{Receipt}
use Rattle.mcv_desks.proofs.OpenDesks.{kept_on}
use Rattle.mcv_desks.proofs.hub_desks.HubDesks.into_parts.Goals as goal

pub returns-clause-receipts : goal.returns-clause-receipts
returns-clause-receipts g c =
    let items : Vec Receipt Global → List Receipt = λ v. v.items in
    let upto0 = ap items c.into_parts-seat0.ensures.receipts in
    let upto1 = kept_on (Ok c.into_parts-seat0.result.1) _ _ c.into_parts-seat1.result.1 (ap items c.into_parts-seat1.ensures.receipts) upto0 c.with_more-receipts.result c.with_more-receipts.ensures in
    let upto2 = kept_on c.with_more-receipts.result _ _ c.into_parts-seat2.result.1 (ap items c.into_parts-seat2.ensures.receipts) upto1 c.with_more-receipts-2.result c.with_more-receipts-2.ensures in
    let upto3 = kept_on c.with_more-receipts-2.result _ _ c.into_parts-seat3.result.1 (ap items c.into_parts-seat3.ensures.receipts) upto2 c.with_more-receipts-3.result c.with_more-receipts-3.ensures in
    let upto4 = kept_on c.with_more-receipts-3.result _ _ c.into_parts-seat4.result.1 (ap items c.into_parts-seat4.ensures.receipts) upto3 c.with_more-receipts-4.result c.with_more-receipts-4.ensures in
    let upto5 = kept_on c.with_more-receipts-4.result _ _ c.into_parts-seat5.result.1 (ap items c.into_parts-seat5.ensures.receipts) upto4 c.with_more-receipts-5.result c.with_more-receipts-5.ensures in
    let upto6 = kept_on c.with_more-receipts-5.result _ _ c.into_parts-seat6.result.1 (ap items c.into_parts-seat6.ensures.receipts) upto5 c.with_more-receipts-6.result c.with_more-receipts-6.ensures in
    kept_on c.with_more-receipts-6.result _ _ c.into_parts-seat7.result.1 (ap items c.into_parts-seat7.ensures.receipts) upto6 c.with_more.result c.with_more.ensures
