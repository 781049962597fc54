use Rattle.std.proofs.Common.{refl, sym, subst}
use Rattle.std.proofs.lemmas.Result.{err_from_is_err_and}
use Rattle.mcv_mend.specs.Mending.{IsRefusedText}
use Rattle.mcv_mend.proofs.run.confirm.Goals as goal

pub returns-in_err-reading-clause-fault : goal.returns-in_err-reading-clause-fault
returns-in_err-reading-clause-fault c =
    let gone = err_from_is_err_and c.from_residual.result c.from_residual.ensures.1 in
    rw (gone.1) (subst (IsRefusedText c.args.text.now) (sym gone.2) c.in_err-reading.ensures.fault)

pub returns-in_err-fine-clause-fault : goal.returns-in_err-fine-clause-fault
returns-in_err-fine-clause-fault c =
    let gone = err_from_is_err_and c.from_residual-in_err-fine.result c.from_residual-in_err-fine.ensures.1 in
    rw (gone.1) (subst (IsRefusedText c.args.text.now) (sym gone.2) refl)

pub returns-then-fine-clause-ok : goal.returns-then-fine-clause-ok
returns-then-fine-clause-ok c = record {
  routes = c.in_ok-reading.reading.routes;
  named = c.in_ok-reading.ensures.named;
  covered = c.in_ok-fine.ensures.covered c.if-fine.true;
  mended = c.in_ok-fine.ensures.mended c.if-fine.true;
}
