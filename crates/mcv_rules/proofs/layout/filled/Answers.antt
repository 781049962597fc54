use Rattle.std.proofs.Common.{rules}
use Rattle.mcv_rules.proofs.Searching.{serves-warm_up}
use Rattle.mcv_rules.proofs.layout.filled.Goals as goal

pub returns : goal.returns
returns c = λ t u exptime s reads f g h.
    serves-warm_up _ c.args.cold c.in_ok-new.field-0 c.in_ok-new-2.field-0 t u exptime s (search rules) reads f (search rules) (search rules)
