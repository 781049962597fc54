use Rattle.std.proofs.Common.{List, ℕ, Option, option_map, subst, sym}
use Rattle.std.proofs.lemmas.Result.{err_from_is_err_and}
use Rattle.serde_json.specs.View.{view}
use Rattle.mcv_input.specs.declared.fault.RunFault.{RunFault}
use Rattle.mcv_verdict.specs.Fault.{IsRefusedFor}
use Rattle.mcv_show.proofs.Verdicts.{memory_refuses, reported_covered, reported_lost}
use Rattle.mcv_show.proofs.reported.reported_of.Goals as goal

pub returns-in_err-_accepted-clause-fault : goal.returns-in_err-_accepted-clause-fault
returns-in_err-_accepted-clause-fault c =
    let given : Option (List ℕ) = option_map (λ s. s.now) c.args.certificate in
    let gone = err_from_is_err_and c.from_residual.result c.from_residual.ensures.1 in
    rw (gone.1) (subst (λ (fault : RunFault). IsRefusedFor c.args.routes given fault) (sym gone.2) c.in_err-_accepted.ensures.fault)

pub returns-in_err-covered_output-in-Covered-clause-fault : goal.returns-in_err-covered_output-in-Covered-clause-fault
returns-in_err-covered_output-in-Covered-clause-fault c =
    let given : Option (List ℕ) = option_map (λ s. s.now) c.args.certificate in
    let gone = err_from_is_err_and c.from_residual-in_err-covered_output-in-Covered.result c.from_residual-in_err-covered_output-in-Covered.ensures.1 in
    rw (gone.1) (subst (λ (fault : RunFault). IsRefusedFor c.args.routes given fault) (sym gone.2) (memory_refuses c.args.routes given))

pub returns-in_ok-covered_output-in-Covered-clause-output : goal.returns-in_ok-covered_output-in-Covered-clause-output
returns-in_ok-covered_output-in-Covered-clause-output c =
    let given : Option (List ℕ) = option_map (λ s. s.now) c.args.certificate in
    let judged = rw c.in-Covered.is at c.in_ok-_accepted.ensures.judged in
    let output = c.in_ok-covered_output-in-Covered in
    reported_covered (view c.args.document.now) c.args.routes c.in-Covered._accepted given c.in-Covered.found output.field-0.verdict output.field-0.text.items judged
    output.ensures.verdict output.ensures.text

pub returns-in_err-lost_output-in-Lost-clause-fault : goal.returns-in_err-lost_output-in-Lost-clause-fault
returns-in_err-lost_output-in-Lost-clause-fault c =
    let given : Option (List ℕ) = option_map (λ s. s.now) c.args.certificate in
    let gone = err_from_is_err_and c.from_residual-in_err-lost_output-in-Lost.result c.from_residual-in_err-lost_output-in-Lost.ensures.1 in
    rw (gone.1) (subst (λ (fault : RunFault). IsRefusedFor c.args.routes given fault) (sym gone.2) (memory_refuses c.args.routes given))

pub returns-in_ok-lost_output-in-Lost-clause-output : goal.returns-in_ok-lost_output-in-Lost-clause-output
returns-in_ok-lost_output-in-Lost-clause-output c =
    let given : Option (List ℕ) = option_map (λ s. s.now) c.args.certificate in
    let judged = rw c.in-Lost.is at c.in_ok-_accepted.ensures.judged in
    let output = c.in_ok-lost_output-in-Lost in
    reported_lost (view c.args.document.now) c.args.routes c.in-Lost.routes given c.in-Lost.finding output.field-0.verdict output.ensures.text.0 output.field-0.text.items judged
    output.ensures.verdict output.ensures.text.1 output.ensures.text.2
