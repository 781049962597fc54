use Rattle.mcv_desks.proofs.EightDesks.{open0, open1, open2, open3, open4, open5, open6, open7}
use Rattle.mcv_desks.proofs.hub_desks.HubDesks.turn.Goals as goal

pub returns-in-0 : goal.returns-in-0
returns-in-0 g c = let d = c.args.self.now in open0 d.desk0.questions d.desk1.questions d.desk2.questions d.desk3.questions d.desk4.questions d.desk5.questions d.desk6.questions d.desk7.questions c.turn_at.new.desk.questions c.turn_at.ensures

pub returns-in-1 : goal.returns-in-1
returns-in-1 g c = let d = c.args.self.now in open1 d.desk0.questions d.desk1.questions d.desk2.questions d.desk3.questions d.desk4.questions d.desk5.questions d.desk6.questions d.desk7.questions c.turn_at-in-1.new.desk.questions c.turn_at-in-1.ensures

pub returns-in-2 : goal.returns-in-2
returns-in-2 g c = let d = c.args.self.now in open2 d.desk0.questions d.desk1.questions d.desk2.questions d.desk3.questions d.desk4.questions d.desk5.questions d.desk6.questions d.desk7.questions c.turn_at-in-2.new.desk.questions c.turn_at-in-2.ensures

pub returns-in-3 : goal.returns-in-3
returns-in-3 g c = let d = c.args.self.now in open3 d.desk0.questions d.desk1.questions d.desk2.questions d.desk3.questions d.desk4.questions d.desk5.questions d.desk6.questions d.desk7.questions c.turn_at-in-3.new.desk.questions c.turn_at-in-3.ensures

pub returns-in-4 : goal.returns-in-4
returns-in-4 g c = let d = c.args.self.now in open4 d.desk0.questions d.desk1.questions d.desk2.questions d.desk3.questions d.desk4.questions d.desk5.questions d.desk6.questions d.desk7.questions c.turn_at-in-4.new.desk.questions c.turn_at-in-4.ensures

pub returns-in-5 : goal.returns-in-5
returns-in-5 g c = let d = c.args.self.now in open5 d.desk0.questions d.desk1.questions d.desk2.questions d.desk3.questions d.desk4.questions d.desk5.questions d.desk6.questions d.desk7.questions c.turn_at-in-5.new.desk.questions c.turn_at-in-5.ensures

pub returns-in-6 : goal.returns-in-6
returns-in-6 g c = let d = c.args.self.now in open6 d.desk0.questions d.desk1.questions d.desk2.questions d.desk3.questions d.desk4.questions d.desk5.questions d.desk6.questions d.desk7.questions c.turn_at-in-6.new.desk.questions c.turn_at-in-6.ensures

pub returns-in_default : goal.returns-in_default
returns-in_default g c = let d = c.args.self.now in open7 d.desk0.questions d.desk1.questions d.desk2.questions d.desk3.questions d.desk4.questions d.desk5.questions d.desk6.questions d.desk7.questions c.turn_at-in_default.new.desk.questions c.turn_at-in_default.ensures
