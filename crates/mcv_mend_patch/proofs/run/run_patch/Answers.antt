use Rattle.std.proofs.Common.{◌∙◌, List, ℕ, IfSome, ap, inr, sym, subst}
use Rattle.std.proofs.lemmas.Option.{IfSome_then}
use Rattle.std.proofs.lemmas.Result.{err_from_is_err_and}
use Rattle.mcv_input.specs.Fault.{IsInputFault}
use Rattle.mcv_input.proofs.FirstBytes.{outside_of_any}
use Rattle.mcv_mend.specs.Mending.{IsMendFault}
use Rattle.mcv_mend.specs.declared.fault.MendFault.{MendFault}
use Rattle.mcv_mend.specs.declared.fault.MendFault.TheVariants.{Run}
use Rattle.mcv_mend.proofs.WholeInput.{fault_by_all}
use Rattle.mcv_mend_patch.specs.Patching.{IsPatchOn}
use Rattle.mcv_mend_patch.proofs.WholeInput.{patch_by_all}
use Rattle.mcv_mend_patch.proofs.run.run_patch.Goals as goal

pub returns-in_err-input-clause-fault : goal.returns-in_err-input-clause-fault
returns-in_err-input-clause-fault g c =
    let known = g.R.Read.remaining c.args.reader.now in
    let gone = err_from_is_err_and c.from_residual.result c.from_residual.ensures.1 in
    rw (gone.1)
    (subst (λ (fault : MendFault). IfSome known (λ input. IsMendFault input fault)) (sym gone.2)
    (outside_of_any IsInputFault known c.in_err-input.field-0.0 (λ bytes. tt) (λ bytes. tt) c.in_err-input.ensures.fault))

pub returns-in_err-output-clause-fault : goal.returns-in_err-output-clause-fault
returns-in_err-output-clause-fault g c =
    let known = g.R.Read.remaining c.args.reader.now in
    let fault = c.in_err-output.field-0.0 in
    let gone = err_from_is_err_and c.from_residual-in_err-output.result c.from_residual-in_err-output.ensures.1 in
    rw (gone.1)
    (subst (λ (e : MendFault). IfSome known (λ input. IsMendFault input e)) (sym gone.2)
    (IfSome_then known c.in_ok-input.ensures.read
    (λ bytes is. fault_by_all bytes fault (subst (λ (xs : List ℕ). IsMendFault xs fault) (c.as_slice.ensures.value ∙ is) c.in_err-output.ensures.fault))))

pub returns-in_err-write_text-clause-fault : goal.returns-in_err-write_text-clause-fault
returns-in_err-write_text-clause-fault g c =
    let known = g.R.Read.remaining c.args.reader.now in
    let gone = err_from_is_err_and c.from_residual-in_err-write_text.result c.from_residual-in_err-write_text.ensures.1 in
    rw (gone.1)
    (subst (λ (e : MendFault). IfSome known (λ input. IsMendFault input e)) (sym gone.2)
    (outside_of_any IsInputFault known c.in_err-write_text.field-0.0 (λ bytes. tt) (λ bytes. tt) (inr c.in_err-write_text.ensures.fault)))

pub returns-in_err-write_text-clause-silent : goal.returns-in_err-write_text-clause-silent
returns-in_err-write_text-clause-silent g c =
    let gone = err_from_is_err_and c.from_residual-in_err-write_text.result c.from_residual-in_err-write_text.ensures.1 in
    rw (gone.1) (λ other. absurd (other (gone.2 ∙ ap Run c.in_err-write_text.ensures.fault)))

pub returns-clause-ok : goal.returns-clause-ok
returns-clause-ok g c =
    let output = c.in_ok-output.output in
    let written = c.as_slice-2.result.now in (
      written,
      IfSome_then (g.R.Read.remaining c.args.reader.now) c.in_ok-input.ensures.read (λ bytes is.
          patch_by_all bytes output.mending written
          (subst (λ (xs : List ℕ). IsPatchOn xs output.mending written) (c.as_slice.ensures.value ∙ is)
          (subst (λ (text : List ℕ). IsPatchOn c.as_slice.result.now output.mending text) (sym c.as_slice-2.ensures.value) c.in_ok-output.ensures.ok))),
      c.in_ok-write_text.ensures.written,
    )
