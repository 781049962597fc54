use Rattle.std.proofs.Common.{List, ℕ, sym, subst}
use Rattle.std.proofs.lemmas.Result.{err_from_is_err_and}
use Rattle.mcv_mend.specs.Mending.{IsMendFault, IsMendingOn}
use Rattle.mcv_mend_patch.proofs.run.patch_output.Goals as goal

pub returns-in_err-copy-clause-fault : goal.returns-in_err-copy-clause-fault
returns-in_err-copy-clause-fault c =
    let gone = err_from_is_err_and c.from_residual.result c.from_residual.ensures.1 in
    rw (gone.1) (subst (IsMendFault c.args.input.now) (sym gone.2) tt)

pub returns-in_err-output-clause-fault : goal.returns-in_err-output-clause-fault
returns-in_err-output-clause-fault c =
    let fault = c.in_err-output.field-0.0 in
    let gone = err_from_is_err_and c.from_residual-in_err-output.result c.from_residual-in_err-output.ensures.1 in
    rw (gone.1)
    (subst (IsMendFault c.args.input.now) (sym gone.2)
    (subst (λ (input : List ℕ). IsMendFault input fault) c.in_ok-copy.ensures.items c.in_err-output.ensures.fault))

pub patch_of-requires : goal.patch_of-requires
patch_of-requires c =
    let output = c.in_ok-output.output in
    subst (λ (input : List ℕ). IsMendingOn input output.mending output.text.items) c.in_ok-copy.ensures.items c.in_ok-output.ensures.ok

pub returns-in_err-text-clause-fault : goal.returns-in_err-text-clause-fault
returns-in_err-text-clause-fault c =
    let gone = err_from_is_err_and c.from_residual-in_err-text.result c.from_residual-in_err-text.ensures.1 in
    rw (gone.1) (subst (IsMendFault c.args.input.now) (sym gone.2) tt)

pub returns-clause-ok : goal.returns-clause-ok
returns-clause-ok c = c.in_ok-text.ensures
