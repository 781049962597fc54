use Rattle.mcv_desks.proofs.EightDesks.{none_open}
use Rattle.mcv_desks.proofs.hub_desks.HubDesks.new.Goals as goal

pub returns : goal.returns
returns g c = none_open c.in_ok-desk0.desk0.questions c.in_ok-desk1.desk1.questions c.in_ok-desk2.desk2.questions c.in_ok-desk3.desk3.questions c.in_ok-desk4.desk4.questions c.in_ok-desk5.desk5.questions c.in_ok-desk6.desk6.questions c.in_ok-desk7.desk7.questions c.in_ok-desk0.ensures c.in_ok-desk1.ensures c.in_ok-desk2.ensures c.in_ok-desk3.ensures c.in_ok-desk4.ensures c.in_ok-desk5.ensures c.in_ok-desk6.ensures c.in_ok-desk7.ensures
