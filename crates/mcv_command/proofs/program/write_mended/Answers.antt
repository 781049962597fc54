use Rattle.std.proofs.Common.{◌∙◌, ap, refl, sym, subst}
use Rattle.std.proofs.lemmas.Result.{err_from_is_err_and}
use Rattle.mcv_command.specs.Program.{IsMendingStop}
use Rattle.mcv_command.specs.Stop.{stop_of_mending}
use Rattle.mcv_command.specs.declared.stop.Stop.{Stop}
use Rattle.mcv_command.proofs.ProgramEnds.{mending_fault}
use Rattle.mcv_command.proofs.program.write_mended.Goals as goal

pub returns-in_err-_mending-clause-stop : goal.returns-in_err-_mending-clause-stop
returns-in_err-_mending-clause-stop g c =
    let known = g.R.Read.remaining c.args.reader.now in
    let fault = c.in_err-_mending.field-0.0 in
    let gone = err_from_is_err_and c.from_residual.result c.from_residual.ensures.1 in
    rw (gone.1)
    (subst (λ (stop : Stop). IsMendingStop known stop) (sym gone.2) (mending_fault known fault c.in_err-_mending.ensures.fault))

pub returns-in_err-_mending-clause-silent : goal.returns-in_err-_mending-clause-silent
returns-in_err-_mending-clause-silent g c =
    let gone = err_from_is_err_and c.from_residual.result c.from_residual.ensures.1 in
    rw (gone.1) (λ no_device. c.in_err-_mending.ensures.silent (λ device. no_device (gone.2 ∙ ap stop_of_mending device)))

pub returns-clause-done : goal.returns-clause-done
returns-clause-done g c =
    let ok = c.in_ok-_mending.ensures.ok in
    (c.in_ok-_mending._mending, ok.0, ok.1, ok.2, refl)
