use Rattle.std.proofs.Common.{refl}
use Rattle.mcv_show.proofs.reported.write_output.Goals as goal

pub returns-clause-ok : goal.returns-clause-ok
returns-clause-ok g c = (refl, rw (← c.as_slice.ensures.value) c.in_ok-write_text.ensures.written)
