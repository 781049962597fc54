use Rattle.std.proofs.Common.{ap}
use Rattle.mcv_input.proofs.FirstBytes.{limited_first}
use Rattle.mcv_input.proofs.device.read_at_most.Goals as goal

pub returns-in-Ok-clause-read : goal.returns-in-Ok-clause-read
returns-in-Ok-clause-read g c =
    limited_first (λ r. g.R.Read.remaining r.now) c.take-limited.result (g.R.Read.remaining c.args.reader.now) c.args.limit c.new-input.result.items
    c.read_to_end.new.buf.items c.take-limited.ensures.limit (ap (λ r. g.R.Read.remaining r.now) c.take-limited.ensures.inner) c.new-input.ensures.items
    c.in-Ok.ensures.bytes
