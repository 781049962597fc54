use Rattle.std.proofs.Common.{List, ℕ, Option, option_map, subst, sym}
use Rattle.std.proofs.lemmas.Result.{IfErr-weaker, IfOk-weaker, err_from_is_err_and}
use Rattle.serde_json.specs.View.{view}
use Rattle.mcv_input.specs.declared.fault.RunFault.{RunFault}
use Rattle.mcv_route.specs.Routes.{RoutesValue}
use Rattle.mcv_verdict.proofs.PartFaults.{input_fault_so, refused_for}
use Rattle.mcv_verdict.specs.Fault.{IsRefusedFor, IsRunFault}
use Rattle.mcv_show.specs.Reported.{IsReportedOf}
use Rattle.mcv_show.proofs.reported.reported.Goals as goal

pub returns-in_err-configuration-clause-fault : goal.returns-in_err-configuration-clause-fault
returns-in_err-configuration-clause-fault c =
    let given : Option (List ℕ) = option_map (λ s. s.now) c.args.certificate in
    let gone = err_from_is_err_and c.from_residual.result c.from_residual.ensures.1 in
    rw (gone.1)
    (subst (λ (fault : RunFault). IsRunFault c.args.input.now c.args.window given fault) (sym gone.2)
    (input_fault_so c.args.input.now c.args.window given c.in_err-configuration.field-0.0 c.in_err-configuration.ensures.fault))

pub returns-clause-output : goal.returns-clause-output
returns-clause-output c =
    let given : Option (List ℕ) = option_map (λ s. s.now) c.args.certificate in
    let configuration = c.in_ok-configuration.configuration in
    IfOk-weaker c.reported_of.result _ _
    (λ o reported. (
      configuration.routes,
      c.in_ok-configuration.ensures.named,
      view configuration.document,
      c.in_ok-configuration.ensures.document,
      subst (λ (r : RoutesValue). IsReportedOf (view configuration.document) r given o.verdict o.text.items) c.within.ensures reported,
    )) c.reported_of.ensures.output

pub returns-clause-fault : goal.returns-clause-fault
returns-clause-fault c =
    let given : Option (List ℕ) = option_map (λ s. s.now) c.args.certificate in
    let routes = c.in_ok-configuration.configuration.routes in
    IfErr-weaker c.reported_of.result _ _
    (λ fault refused.
    refused_for c.args.input.now c.args.window routes given fault (subst (λ (r : RoutesValue). IsRefusedFor r given fault) c.within.ensures refused) c.in_ok-configuration.ensures.named) c.reported_of.ensures.fault
