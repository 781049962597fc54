use Rattle.mcv_upstream.proofs.Life.{carried_begins, carried_closed, carried_landed, carried_lost, carried_refused, carried_sent, carried_written}
use Rattle.mcv_upstream.proofs.laws.written_legs_land_or_are_lost.Goals as goal

pub returns : goal.returns
returns c = record { begins = carried_begins; sends = carried_sent; refuses = carried_refused; writes = carried_written; lands = carried_landed; loses = carried_lost; closes = carried_closed }
