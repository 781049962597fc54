use Rattle.std.proofs.Common.{◌∙◌, ap, refl, sym, subst}
use Rattle.std.proofs.lemmas.Result.{err_from_is_err_and}
use Rattle.mcv_command.specs.Program.{IsDrawingStop}
use Rattle.mcv_command.specs.declared.stop.Stop.{Stop}
use Rattle.mcv_command.specs.declared.stop.Stop.TheVariants.{Run}
use Rattle.mcv_command.proofs.program.draw.Goals as goal

pub returns-in_err-_verdict-clause-stop : goal.returns-in_err-_verdict-clause-stop
returns-in_err-_verdict-clause-stop g c =
    let known = g.R.Read.remaining c.args.reader.now in
    let gone = err_from_is_err_and c.from_residual.result c.from_residual.ensures.1 in
    rw (gone.1) (subst (λ (stop : Stop). IsDrawingStop known stop) (sym gone.2) c.in_err-_verdict.ensures.fault)

pub returns-in_err-_verdict-clause-silent : goal.returns-in_err-_verdict-clause-silent
returns-in_err-_verdict-clause-silent g c =
    let gone = err_from_is_err_and c.from_residual.result c.from_residual.ensures.1 in
    rw (gone.1) (λ no_device. c.in_err-_verdict.ensures.silent (λ device. no_device (gone.2 ∙ ap Run device)))

pub returns-clause-done : goal.returns-clause-done
returns-clause-done g c =
    let ok = c.in_ok-_verdict.ensures.ok in
    (c.in_ok-_verdict._verdict, ok.0, ok.1, ok.2, refl)
