use Rattle.std.proofs.Common.{◌≡◌, ℕ, List, Some, inl, inr, take, sym, subst}
use Rattle.std.specs.Prelude.{IfSome}
use Rattle.std.proofs.lemmas.Result.{err_from_is_err_and}
use Rattle.mcv_command.specs.Program.{Held, IsJudgingFault}
use Rattle.mcv_command.specs.declared.stop.Stop.{Stop}
use Rattle.mcv_command.proofs.ProgramEnds.{fault_by_all, given_all, outside_unreported, read_limit, reported_stop, verdict_as_by_all}
use Rattle.mcv_show.specs.AsAsked.{IsVerdictAs}
use Rattle.mcv_verdict.specs.Fault as check
use Rattle.mcv_command.proofs.program.judge_by.Goals as goal

pub returns-in_err-text-clause-stop : goal.returns-in_err-text-clause-stop
returns-in_err-text-clause-stop g c =
    let known = g.R.Read.remaining c.args.reader.now in
    let held : Held = g.F.NamedFiles.held c.args.files.now in
    let gone = err_from_is_err_and c.from_residual.result c.from_residual.ensures.1 in
    rw (gone.1)
    (subst (λ (stop : Stop). IsJudgingFault held (Some c.args.name.now) c.args.options.window.seconds known stop) (sym gone.2) (inl c.in_err-text.ensures.fault))

pub returns-in_err-verdict-clause-stop : goal.returns-in_err-verdict-clause-stop
returns-in_err-verdict-clause-stop g c =
    let known = g.R.Read.remaining c.args.reader.now in
    let held : Held = g.F.NamedFiles.held c.args.files.now in
    let name = c.args.name.now in
    let first = c.as_slice.result.now in
    let read : IfSome (held name) (λ all. first ≡ take read_limit all) =
    subst (λ (xs : List ℕ). IfSome (held name) (λ all. xs ≡ take read_limit all)) (sym c.as_slice.ensures.value) c.in_ok-text.ensures.read in
    let fault = c.in_err-verdict.field-0.0 in
    let gone = err_from_is_err_and c.from_residual-in_err-verdict.result c.from_residual-in_err-verdict.ensures.1 in
    rw (gone.1)
    (subst (λ (stop : Stop). IsJudgingFault held (Some name) c.args.options.window.seconds known stop) (sym gone.2)
    (inr (given_all held name first known (λ bytes certificate. check.IsRunFault bytes c.args.options.window.seconds certificate fault) read (λ bytes all is here. fault_by_all bytes c.args.options.window.seconds all first fault is here) c.in_err-verdict.ensures.fault)))

pub returns-clause-done : goal.returns-clause-done
returns-clause-done g c =
    let known = g.R.Read.remaining c.args.reader.now in
    let held : Held = g.F.NamedFiles.held c.args.files.now in
    let name = c.args.name.now in
    let first = c.as_slice.result.now in
    let read : IfSome (held name) (λ all. first ≡ take read_limit all) =
    subst (λ (xs : List ℕ). IfSome (held name) (λ all. xs ≡ take read_limit all)) (sym c.as_slice.ensures.value) c.in_ok-text.ensures.read in
    let ok = c.in_ok-verdict.ensures.ok in
    let verdict = c.in_ok-verdict.verdict in (
      verdict,
      ok.0,
      given_all held name first known (λ bytes certificate. IsVerdictAs c.args.options bytes certificate verdict ok.0) read (λ bytes all is here. verdict_as_by_all c.args.options bytes all first verdict ok.0 is here) ok.1,
      ok.2,
      c.ending_of.ensures,
    )

pub returns-in_err-text-clause-reported : goal.returns-in_err-text-clause-reported
returns-in_err-text-clause-reported g c =
    let gone = err_from_is_err_and c.from_residual.result c.from_residual.ensures.1 in
    rw (gone.1) (λ on. outside_unreported _ _ _ gone.0 c.in_err-text.field-0.0 gone.2 c.in_err-text.ensures.fault)

pub returns-in_err-verdict-clause-reported : goal.returns-in_err-verdict-clause-reported
returns-in_err-verdict-clause-reported g c =
    let gone = err_from_is_err_and c.from_residual-in_err-verdict.result c.from_residual-in_err-verdict.ensures.1 in
    rw (gone.1) (λ on. reported_stop _ _ _ gone.0 c.in_err-verdict.field-0.0 gone.2 (c.in_err-verdict.ensures.reported on))
