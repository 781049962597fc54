use Rattle.std.proofs.Common.{◌∙◌, ap}
use Rattle.mcv_serve.specs.Pending.{numbered}
use Rattle.mcv_serve.proofs.store.open_spool.Goals as goal

pub returns : goal.returns
returns g c = λ keeps.
    let found = c.in_ok-spool.ensures.found keeps in
    c.in_ok-records.ensures ∙ ap (numbered 0) (c.pending.ensures.value ∙ found.undone)
