use Rattle.std.proofs.Common.{List, ℕ, refl, sym, subst}
use Rattle.std.proofs.lemmas.Result.{err_from_is_err_and}
use Rattle.mcv_mend.specs.Mending.{IsMendFault, IsMendedText, IsNotMended}
use Rattle.mcv_mend.proofs.WholeInput.{not_mended}
use Rattle.mcv_mend.proofs.run.mend_named.Goals as goal

pub returns-in_err-covered-clause-fault : goal.returns-in_err-covered-clause-fault
returns-in_err-covered-clause-fault c =
    let gone = err_from_is_err_and c.from_residual.result c.from_residual.ensures.1 in
    rw (gone.1) (subst (IsMendFault c.args.input.items) (sym gone.2) tt)

pub returns-then-covered-clause-ok : goal.returns-then-covered-clause-ok
returns-then-covered-clause-ok c = (c.in_ok-covered.ensures.covered c.if-covered.true, refl)

pub mended_text-requires-clause-lost : goal.mended_text-requires-clause-lost
mended_text-requires-clause-lost c = c.in_ok-covered.ensures.lost c.if-covered.false

pub returns-in_err-text-clause-fault : goal.returns-in_err-text-clause-fault
returns-in_err-text-clause-fault c =
    let input = c.args.input.items in
    let fault = c.in_err-text.field-0.0 in
    let gone = err_from_is_err_and c.from_residual-in_err-text.result c.from_residual-in_err-text.ensures.1 in
    let refused = subst (λ (xs : List ℕ). IsNotMended xs fault) c.as_slice.ensures.value c.in_err-text.ensures.fault in
    rw (gone.1) (subst (IsMendFault input) (sym gone.2) (not_mended input c.args.old.now.routes fault c.requires.named (c.in_ok-covered.ensures.lost c.if-covered.false) refused))

pub returns-clause-ok : goal.returns-clause-ok
returns-clause-ok c = subst (λ (input : List ℕ). IsMendedText c.args.old.now.routes input c.in_ok-text.text.items) c.as_slice.ensures.value c.in_ok-text.ensures.ok
