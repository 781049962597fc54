use Rattle.std.proofs.Common.{◌≡◌, ◌++◌, List, subst}
use Rattle.std.specs.Prelude.{IfOk}
use Rattle.mcv_hub.specs.declared.receipts.Receipt.{Receipt}
use Rattle.mcv_desks.proofs.OpenDesks.{more_kept}
use Rattle.mcv_desks.proofs.hub_desks.with_more.Goals as goal

pub returns-in-Ok : goal.returns-in-Ok
returns-in-Ok c = more_kept c.args.all c.in-Ok.all c.args.other.items c.joined.result c.in-Ok.is (subst (λ (more : List Receipt). IfOk c.joined.result (λ v. v.items ≡ c.in-Ok.all.items ++ more)) c.as_slice.ensures.value c.joined.ensures)
