use Rattle.std.proofs.Common.{sym}
use Rattle.mcv_draw.proofs.LegsInOrder.{next_is, next_leads}
use Rattle.mcv_draw.proofs.legs.Legs.next.Goals as goal

pub returns-clause-leads : goal.returns-clause-leads
returns-clause-leads c =
    next_leads c.args.self.now.positions.items c.args.steps.now c.count_before-number.result _ (sym c.at.ensures) c.args.self.now.sorted c.count_before-number.ensures

pub returns-clause-is : goal.returns-clause-is
returns-clause-is c = next_is c.args.self.now.positions.items c.args.steps.now c.count_before-number.result _ (sym c.at.ensures) c.args.self.now.sorted c.count_before-number.ensures
