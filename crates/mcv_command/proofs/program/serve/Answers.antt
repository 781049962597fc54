use Rattle.std.proofs.Common.{◌∙◌, List, None, ap, ℕ, inl, inr, refl, subst, sym}
use Rattle.std.proofs.lemmas.Option.{IfSome_then}
use Rattle.std.proofs.lemmas.Result.{err_from_is_err_and}
use Rattle.mcv_route.specs.Routes.{within}
use Rattle.mcv_verdict.specs.Verdict.{IsVerdict}
use Rattle.mcv_verdict.specs.declared.verdict.Verdict.TheVariants as verdicts
use Rattle.mcv_command.specs.Program.{IsJudgingFault}
use Rattle.mcv_command.specs.declared.stop.Stop.{Stop}
use Rattle.mcv_command.specs.declared.stop.Stop.TheVariants.{Run}
use Rattle.mcv_command.proofs.ProgramEnds.{outside_stop}
use Rattle.mcv_command.proofs.program.serve.Goals as goal

pub returns-in_err-accepted-clause-stop : goal.returns-in_err-accepted-clause-stop
returns-in_err-accepted-clause-stop g c held =
    let known = g.R.Read.remaining c.args.reader.now in
    let gone = err_from_is_err_and c.from_residual.result c.from_residual.ensures.1 in
    rw (gone.1) (subst (λ (stop : Stop). IsJudgingFault held None c.args.options.settings.window.seconds known stop) (sym gone.2) (inr c.in_err-accepted.ensures.fault))

pub returns-in_default-clause-stop : goal.returns-in_default-clause-stop
returns-in_default-clause-stop g c held = inl (inl refl)

pub returns-in_err-serve-in-Covered-clause-stop : goal.returns-in_err-serve-in-Covered-clause-stop
returns-in_err-serve-in-Covered-clause-stop g c held =
    let known = g.R.Read.remaining c.args.reader.now in
    let gone = err_from_is_err_and c.from_residual-in_err-serve-in-Covered.result c.from_residual-in_err-serve-in-Covered.ensures.1 in
    rw (gone.1) (subst (λ (stop : Stop). IsJudgingFault held None c.args.options.settings.window.seconds known stop) (sym gone.2) (inl c.in_err-serve-in-Covered.ensures.fault))

pub returns-in_err-serve-in-Covered-clause-silent : goal.returns-in_err-serve-in-Covered-clause-silent
returns-in_err-serve-in-Covered-clause-silent g c =
    let gone = err_from_is_err_and c.from_residual-in_err-serve-in-Covered.result c.from_residual-in_err-serve-in-Covered.ensures.1 in
    rw (gone.1) (λ no_device no_memory. absurd (outside_stop _ c.in_err-serve-in-Covered.field-0.0 gone.2 c.in_err-serve-in-Covered.ensures.fault no_device no_memory))

pub returns-in_err-write_text-in-Lost-clause-stop : goal.returns-in_err-write_text-in-Lost-clause-stop
returns-in_err-write_text-in-Lost-clause-stop g c held =
    let known = g.R.Read.remaining c.args.reader.now in
    let gone = err_from_is_err_and c.from_residual-in_err-write_text-in-Lost.result c.from_residual-in_err-write_text-in-Lost.ensures.1 in
    rw (gone.1) (subst (λ (stop : Stop). IsJudgingFault held None c.args.options.settings.window.seconds known stop) (sym gone.2) (inl (inr c.in_err-write_text-in-Lost.ensures.fault)))

pub returns-in_err-write_text-in-Lost-clause-silent : goal.returns-in_err-write_text-in-Lost-clause-silent
returns-in_err-write_text-in-Lost-clause-silent g c =
    let gone = err_from_is_err_and c.from_residual-in_err-write_text-in-Lost.result c.from_residual-in_err-write_text-in-Lost.ensures.1 in
    rw (gone.1) (λ no_device no_memory. absurd (no_device (gone.2 ∙ ap Run c.in_err-write_text-in-Lost.ensures.fault)))

pub returns-clause-done : goal.returns-clause-done
returns-clause-done g c held =
    let judged = rw c.in-Lost.is at c.in_ok-accepted.ensures.judged in
    let text = c.as_slice.result.now in
    inr (
      (
        verdicts.Lost,
        text,
        IfSome_then (g.R.Read.remaining c.args.reader.now) judged.1 (λ bytes named. (
          judged.0,
          named,
          subst (λ (xs : List ℕ). IsVerdict (within c.args.options.settings.window.seconds judged.0) verdicts.Lost xs) (sym c.as_slice.ensures.value) judged.2,
        )),
        c.in_ok-write_text-in-Lost.ensures.written,
        refl,
      ),
      c.ending_of.ensures,
    )
