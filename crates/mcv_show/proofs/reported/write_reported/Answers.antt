use Rattle.std.proofs.Common.{List, ℕ, Option, option_map, subst, sym}
use Rattle.std.proofs.lemmas.Result.{IfErr-weaker, IfOk-weaker}
use Rattle.mcv_input.specs.declared.fault.RunFault.{RunFault}
use Rattle.mcv_verdict.specs.Fault.{IsRunFault}
use Rattle.mcv_verdict.specs.declared.verdict.Verdict.{Verdict}
use Rattle.mcv_show.specs.Reported.{IsReportedOn}
use Rattle.mcv_show.proofs.WholeInput.{reported_fault}
use Rattle.mcv_show.proofs.reported.write_reported.Goals as goal

pub returns-in-Ok-clause-ok : goal.returns-in-Ok-clause-ok
returns-in-Ok-clause-ok g c =
    let given : Option (List ℕ) = option_map (λ s. s.now) c.args.certificate in
    let text = c.in-Ok.output.text.items in
    IfOk-weaker c.write_output.result _ _
    (λ verdict ok. (text, subst (λ (v : Verdict). IsReportedOn c.args.input.now c.args.window given v text) (sym ok.0) c.in-Ok.ensures.output, ok.1)) c.write_output.ensures.ok

pub returns-in-Ok-clause-fault : goal.returns-in-Ok-clause-fault
returns-in-Ok-clause-fault g c =
    let given : Option (List ℕ) = option_map (λ s. s.now) c.args.certificate in
    IfErr-weaker c.write_output.result _ _
    (λ fault is. subst (λ (f : RunFault). IsRunFault c.args.input.now c.args.window given f) (sym is) tt) c.write_output.ensures.fault

pub returns-in-Ok-clause-reported : goal.returns-in-Ok-clause-reported
returns-in-Ok-clause-reported g c = IfErr-weaker c.write_output.result _ _ (λ fault is no_memory no_device. absurd (no_device is)) c.write_output.ensures.fault

pub returns-in-Err-clause-fault : goal.returns-in-Err-clause-fault
returns-in-Err-clause-fault g c =
    let given : Option (List ℕ) = option_map (λ s. s.now) c.args.certificate in
    reported_fault c.args.input.now c.args.window given c.in-Err.fault c.report_fault.result c.report_fault.ensures.fault c.in-Err.ensures.fault

pub returns-in-Err-clause-reported : goal.returns-in-Err-clause-reported
returns-in-Err-clause-reported g c = c.report_fault.ensures.reported
