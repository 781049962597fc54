use Rattle.std.proofs.Common.{List, ℕ, map, refl, sym, subst}
use Rattle.std.proofs.lemmas.Result.{err_from_is_err_and}
use Rattle.mcv_blocks.specs.Places.{AreRouteClasses}
use Rattle.mcv_needs.specs.InMemory.{class_of_need, needs_value}
use Rattle.mcv_mend.specs.Mending.{IsNotMended, IsRefusedText, NamesMended}
use Rattle.mcv_needs.specs.declared.needs.Need.{Need}
use Rattle.mcv_mend.proofs.WholeInput.{refused_text}
use Rattle.mcv_mend.proofs.run.mended_text.Goals as goal

pub returns-in_err-needs-clause-fault : goal.returns-in_err-needs-clause-fault
returns-in_err-needs-clause-fault c =
    let gone = err_from_is_err_and c.from_residual.result c.from_residual.ensures.1 in
    rw (gone.1) (subst (IsNotMended c.args.input.now) (sym gone.2) refl)

pub returns-in_err-text-clause-fault : goal.returns-in_err-text-clause-fault
returns-in_err-text-clause-fault c =
    let gone = err_from_is_err_and c.from_residual-in_err-text.result c.from_residual-in_err-text.ensures.1 in
    rw (gone.1) (subst (IsNotMended c.args.input.now) (sym gone.2) c.in_err-text.ensures.fault)

pub confirm-requires-clause-classes : goal.confirm-requires-clause-classes
confirm-requires-clause-classes c = subst (λ (needs : List Need). AreRouteClasses c.args.old.now.routes (map class_of_need needs)) (sym c.as_slice-2.ensures.value) c.in_ok-needs.ensures.classes

pub returns-in_err-confirm-clause-fault : goal.returns-in_err-confirm-clause-fault
returns-in_err-confirm-clause-fault c =
    let input = c.args.input.now in
    let fault = c.in_err-confirm.field-0.0 in
    let gone = err_from_is_err_and c.from_residual-in_err-confirm.result c.from_residual-in_err-confirm.ensures.1 in
    let refused = subst (λ (text : List ℕ). IsRefusedText text fault) c.as_slice-3.ensures.value c.in_err-confirm.ensures.fault in
    rw (gone.1) (subst (IsNotMended input) (sym gone.2) (refused_text input c.in_ok-text.text.items fault c.in_ok-text.ensures.kept refused))

pub returns-clause-ok : goal.returns-clause-ok
returns-clause-ok c =
    let r = c.args.old.now.routes in
    let needs = c.in_ok-needs.needs.items in
    let text = c.in_ok-text.text.items in
    record {
      uncovered = c.requires.lost;
      kept = c.in_ok-text.ensures.kept;
      needs = needs_value needs;
      least = c.in_ok-needs.ensures.least;
      mended = subst (λ (ns : List Need). NamesMended r (needs_value ns) text) c.as_slice-2.ensures.value
          (subst (λ (t : List ℕ). NamesMended r (needs_value c.as_slice-2.result.now) t) c.as_slice-3.ensures.value c.in_ok-confirm.ensures.ok);
    }
