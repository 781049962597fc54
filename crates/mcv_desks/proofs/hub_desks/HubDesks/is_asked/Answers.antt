use Rattle.std.proofs.Common.{◌∙◌, arith, sym}
use Rattle.mcv_desks.proofs.EightDesks.{is0, is1, is2, is3, is4, is5, is6, is7}
use Rattle.mcv_desks.proofs.hub_desks.HubDesks.is_asked.Goals as goal

pub returns-in-0 : goal.returns-in-0
returns-in-0 g c = let d = c.args.self.now in c.is_asked.ensures ∙ sym (is0 d.desk0.is_asked d.desk1.is_asked d.desk2.is_asked d.desk3.is_asked d.desk4.is_asked d.desk5.is_asked d.desk6.is_asked d.desk7.is_asked c.args.hub c.in-0.is)

pub returns-in-1 : goal.returns-in-1
returns-in-1 g c = let d = c.args.self.now in c.is_asked-in-1.ensures ∙ sym (is1 d.desk0.is_asked d.desk1.is_asked d.desk2.is_asked d.desk3.is_asked d.desk4.is_asked d.desk5.is_asked d.desk6.is_asked d.desk7.is_asked c.args.hub c.in-1.is)

pub returns-in-2 : goal.returns-in-2
returns-in-2 g c = let d = c.args.self.now in c.is_asked-in-2.ensures ∙ sym (is2 d.desk0.is_asked d.desk1.is_asked d.desk2.is_asked d.desk3.is_asked d.desk4.is_asked d.desk5.is_asked d.desk6.is_asked d.desk7.is_asked c.args.hub c.in-2.is)

pub returns-in-3 : goal.returns-in-3
returns-in-3 g c = let d = c.args.self.now in c.is_asked-in-3.ensures ∙ sym (is3 d.desk0.is_asked d.desk1.is_asked d.desk2.is_asked d.desk3.is_asked d.desk4.is_asked d.desk5.is_asked d.desk6.is_asked d.desk7.is_asked c.args.hub c.in-3.is)

pub returns-in-4 : goal.returns-in-4
returns-in-4 g c = let d = c.args.self.now in c.is_asked-in-4.ensures ∙ sym (is4 d.desk0.is_asked d.desk1.is_asked d.desk2.is_asked d.desk3.is_asked d.desk4.is_asked d.desk5.is_asked d.desk6.is_asked d.desk7.is_asked c.args.hub c.in-4.is)

pub returns-in-5 : goal.returns-in-5
returns-in-5 g c = let d = c.args.self.now in c.is_asked-in-5.ensures ∙ sym (is5 d.desk0.is_asked d.desk1.is_asked d.desk2.is_asked d.desk3.is_asked d.desk4.is_asked d.desk5.is_asked d.desk6.is_asked d.desk7.is_asked c.args.hub c.in-5.is)

pub returns-in-6 : goal.returns-in-6
returns-in-6 g c = let d = c.args.self.now in c.is_asked-in-6.ensures ∙ sym (is6 d.desk0.is_asked d.desk1.is_asked d.desk2.is_asked d.desk3.is_asked d.desk4.is_asked d.desk5.is_asked d.desk6.is_asked d.desk7.is_asked c.args.hub c.in-6.is)

pub returns-in_default : goal.returns-in_default
returns-in_default g c = let d = c.args.self.now in c.is_asked-in_default.ensures ∙ sym (is7 d.desk0.is_asked d.desk1.is_asked d.desk2.is_asked d.desk3.is_asked d.desk4.is_asked d.desk5.is_asked d.desk6.is_asked d.desk7.is_asked c.args.hub (omega arith))
