use Rattle.std.proofs.Common.{None, inr, sym, subst}
use Rattle.std.proofs.lemmas.Result.{err_from_is_err_and}
use Rattle.mcv_command.specs.Program.{IsJudgingFault}
use Rattle.mcv_command.specs.declared.stop.Stop.{Stop}
use Rattle.mcv_command.proofs.ProgramEnds.{reported_stop}
use Rattle.mcv_command.proofs.program.judge.Goals as goal

pub returns-in_err-verdict-clause-stop : goal.returns-in_err-verdict-clause-stop
returns-in_err-verdict-clause-stop g c held =
    let known = g.R.Read.remaining c.args.reader.now in
    let gone = err_from_is_err_and c.from_residual.result c.from_residual.ensures.1 in
    rw (gone.1)
    (subst (λ (stop : Stop). IsJudgingFault held None c.args.options.window.seconds known stop) (sym gone.2) (inr c.in_err-verdict.ensures.fault))

pub returns-clause-done : goal.returns-clause-done
returns-clause-done g c held =
    let ok = c.in_ok-verdict.ensures.ok in
    (c.in_ok-verdict.verdict, ok.0, ok.1, ok.2, c.ending_of.ensures)

pub returns-in_err-verdict-clause-reported : goal.returns-in_err-verdict-clause-reported
returns-in_err-verdict-clause-reported g c =
    let gone = err_from_is_err_and c.from_residual.result c.from_residual.ensures.1 in
    rw (gone.1) (λ on. reported_stop _ _ _ gone.0 c.in_err-verdict.field-0.0 gone.2 (c.in_err-verdict.ensures.reported on))
