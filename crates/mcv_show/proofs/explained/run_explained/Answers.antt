use Rattle.std.proofs.Common.{◌≡◌, List, ℕ, Option, IfSome, option_map, subst, sym, take}
use Rattle.std.proofs.lemmas.Option.{IfSome_then}
use Rattle.std.proofs.lemmas.Result.{err_from_is_err_and}
use Rattle.mcv_input.proofs.FirstBytes.{outside_of_any, read_limit}
use Rattle.mcv_input.specs.declared.fault.RunFault.{RunFault}
use Rattle.mcv_show.specs.Explained.{IsExplainedOn}
use Rattle.mcv_show.proofs.WholeInput.{explained_whole, run_fault_whole}
use Rattle.mcv_verdict.specs.Fault.{IsRunFault}
use Rattle.mcv_show.proofs.explained.run_explained.Goals as goal

pub returns-in_err-input-clause-fault : goal.returns-in_err-input-clause-fault
returns-in_err-input-clause-fault g c =
    let known = g.R.Read.remaining c.args.reader.now in
    let given : Option (List ℕ) = option_map (λ s. s.now) c.args.certificate in
    let gone = err_from_is_err_and c.from_residual.result c.from_residual.ensures.1 in
    rw (gone.1)
    (subst (λ (fault : RunFault). IfSome known (λ input. IsRunFault input c.args.window given fault)) (sym gone.2)
    (outside_of_any (λ input fault. IsRunFault input c.args.window given fault) known c.in_err-input.field-0.0 (λ bytes. tt) (λ bytes. tt) c.in_err-input.ensures.fault))

pub returns-in_err-output-clause-fault : goal.returns-in_err-output-clause-fault
returns-in_err-output-clause-fault g c =
    let known = g.R.Read.remaining c.args.reader.now in
    let given : Option (List ℕ) = option_map (λ s. s.now) c.args.certificate in
    let first = c.as_slice.result.now in
    let read : IfSome known (λ bytes. first ≡ take read_limit bytes) = subst (λ (xs : List ℕ). IfSome known (λ bytes. xs ≡ take read_limit bytes)) (sym c.as_slice.ensures.value) c.in_ok-input.ensures.read in
    let gone = err_from_is_err_and c.from_residual-in_err-output.result c.from_residual-in_err-output.ensures.1 in
    rw (gone.1)
    (subst (λ (fault : RunFault). IfSome known (λ input. IsRunFault input c.args.window given fault)) (sym gone.2)
    (IfSome_then known read (λ bytes is. run_fault_whole first bytes c.args.window given c.in_err-output.field-0.0 is c.in_err-output.ensures.fault)))

pub returns-clause-ok : goal.returns-clause-ok
returns-clause-ok g c =
    let known = g.R.Read.remaining c.args.reader.now in
    let given : Option (List ℕ) = option_map (λ s. s.now) c.args.certificate in
    let first = c.as_slice.result.now in
    let verdict = c.in_ok-output.output.verdict in
    let text = c.as_slice-2.result.now in
    let read : IfSome known (λ bytes. first ≡ take read_limit bytes) = subst (λ (xs : List ℕ). IfSome known (λ bytes. xs ≡ take read_limit bytes)) (sym c.as_slice.ensures.value) c.in_ok-input.ensures.read in
    let explained : IsExplainedOn first c.args.window given verdict text =
    subst (λ (xs : List ℕ). IsExplainedOn first c.args.window given verdict xs) (sym c.as_slice-2.ensures.value) c.in_ok-output.ensures.output in
    (text, IfSome_then known read (λ bytes is. explained_whole c.args.window first bytes given verdict text is explained), c.in_ok-write_text.ensures.written)
