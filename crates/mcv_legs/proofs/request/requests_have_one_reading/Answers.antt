use Rattle.mcv_legs.proofs.Lines.{one_request}
use Rattle.mcv_legs.proofs.request.requests_have_one_reading.Goals as goal

pub returns : goal.returns
returns c = one_request
