use Rattle.mcv_alike.proofs.Alike.{alike, deletes_more}
use Rattle.mcv_alike.proofs.laws.plans_tell_of_routes.Goals as goal

pub returns : goal.returns
returns c = record { alike = alike; widened = deletes_more }
