use Rattle.mcv_pipeline.proofs.Life.{lived_begins, lived_closed, lived_landed, lived_lost, lived_refused, lived_sent}
use Rattle.mcv_pipeline.proofs.laws.legs_land_or_are_lost.Goals as goal

pub returns : goal.returns
returns c = record { begins = lived_begins; sends = lived_sent; refuses = lived_refused; lands = lived_landed; loses = lived_lost; closes = lived_closed }
