use Rattle.std.proofs.Common.{sym, subst}
use Rattle.std.proofs.lemmas.Result.{err_from_is_err_and}
use Rattle.mcv_input.specs.Fault.{IsInputFault}
use Rattle.mcv_input.specs.declared.fault.RunFault.{RunFault}
use Rattle.mcv_show.proofs.WholeInput.{named_has_document, refused_input}
use Rattle.mcv_show.proofs.input.configuration_of.Goals as goal

pub returns-in_err-routes-clause-fault : goal.returns-in_err-routes-clause-fault
returns-in_err-routes-clause-fault c =
    let gone = err_from_is_err_and c.from_residual.result c.from_residual.ensures.1 in
    rw (gone.1)
    (subst (λ (fault : RunFault). IsInputFault c.args.text.now fault) (sym gone.2) (refused_input c.args.text.now c.in_err-routes.field-0.0 c.in_err-routes.ensures.fault))

pub unreachable-requires : goal.unreachable-requires
unreachable-requires c = named_has_document c.args.text.now c.in_ok-routes.routes c.in_ok-routes.ensures.named (rw c.in_default.is at c.in_ok-document.ensures)
