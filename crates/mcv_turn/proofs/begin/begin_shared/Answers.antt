use Rattle.std.proofs.Common.{Err, inl, inr, refl, subst}
use Rattle.std.specs.Prelude.{IfErr, IfOk}
use Rattle.std.specs.Arc.{arc_value}
use Rattle.mcv_base.specs.declared.request.Request.{Request}
use Rattle.mcv_core.specs.declared.fault.CoreFault.TheVariants.{Memory}
use Rattle.mcv_hub.specs.Gate.{IsHubBegun}
use Rattle.mcv_turn.proofs.Books.{was_refused}
use Rattle.mcv_turn.specs.Answers.{WasBegun, WasRefused}
use Rattle.mcv_text.specs.Request.{request_value}
use Rattle.mcv_turn.proofs.begin.begin_shared.Goals as goal

pub returns-in-Ok-clause-event : goal.returns-in-Ok-clause-event
returns-in-Ok-clause-event g c =
    let P : Request → Type 0 = λ r. IsHubBegun c.args.guard.now r c.args.key c.begin.result c.begin.new.guard in
    inl (subst P c.in-Ok.ensures c.begin.ensures.event)

pub returns-in-Err-clause-event : goal.returns-in-Err-clause-event
returns-in-Err-clause-event g c = inr (refl, refl)

pub returns-in-Ok-clause-refused : goal.returns-in-Ok-clause-refused
returns-in-Ok-clause-refused g c =
    let P : Request → Type 0 = λ r. IfErr c.begin.result (WasRefused g.B.HubLedger.opened (request_value r) c.args.key) in
    subst P c.in-Ok.ensures c.begin.ensures.refused

pub returns-in-Err-clause-refused : goal.returns-in-Err-clause-refused
returns-in-Err-clause-refused g c = was_refused g.B.HubLedger.opened (arc_value c.args.request.now) c.args.key c.args.guard.now (Err Memory) c.is_opened.ensures c.deletes_are_kept.ensures (inr tt)

pub returns-in-Ok-clause-began : goal.returns-in-Ok-clause-began
returns-in-Ok-clause-began g c =
    let P : Request → Type 0 = λ r. IfOk c.begin.result (WasBegun g.B.HubLedger.opened (request_value r) c.args.key) in
    subst P c.in-Ok.ensures c.begin.ensures.began
