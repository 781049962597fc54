use Rattle.std.proofs.Common.{◌≡◌, List, ℕ, Option, IfSome, option_map, subst, sym, take}
use Rattle.std.proofs.lemmas.Option.{IfSome_then}
use Rattle.std.proofs.lemmas.Result.{IfErr-weaker, IfOk-weaker, err_from_is_err_and}
use Rattle.mcv_input.proofs.FirstBytes.{outside_of_any, read_limit}
use Rattle.mcv_input.specs.Fault.{IsOutside}
use Rattle.mcv_input.specs.declared.fault.RunFault.{RunFault}
use Rattle.mcv_show.specs.Reported.{IsFaultText}
use Rattle.mcv_show.proofs.WholeInput.{not_outside, reported_known, run_fault_whole}
use Rattle.mcv_verdict.specs.Fault.{IsRunFault}
use Rattle.mcv_show.proofs.reported.run_reported.Goals as goal

pub returns-in_err-input-clause-fault : goal.returns-in_err-input-clause-fault
returns-in_err-input-clause-fault g c =
    let known = g.R.Read.remaining c.args.reader.now in
    let given : Option (List ℕ) = option_map (λ s. s.now) c.args.certificate in
    let gone = err_from_is_err_and c.from_residual.result c.from_residual.ensures.1 in
    rw (gone.1)
    (subst (λ (fault : RunFault). IfSome known (λ input. IsRunFault input c.args.window given fault)) (sym gone.2)
    (outside_of_any (λ input fault. IsRunFault input c.args.window given fault) known c.in_err-input.field-0.0 (λ bytes. tt) (λ bytes. tt) c.in_err-input.ensures.fault))

pub returns-in_err-input-clause-reported : goal.returns-in_err-input-clause-reported
returns-in_err-input-clause-reported g c =
    let gone = err_from_is_err_and c.from_residual.result c.from_residual.ensures.1 in
    rw (gone.1)
    (λ no_memory no_device. absurd (not_outside _ (subst (λ (fault : RunFault). IsOutside fault) (sym gone.2) c.in_err-input.ensures.fault) no_memory no_device))

pub returns-clause-ok : goal.returns-clause-ok
returns-clause-ok g c =
    let known = g.R.Read.remaining c.args.reader.now in
    let given : Option (List ℕ) = option_map (λ s. s.now) c.args.certificate in
    let first = c.as_slice.result.now in
    let read : IfSome known (λ bytes. first ≡ take read_limit bytes) = subst (λ (xs : List ℕ). IfSome known (λ bytes. xs ≡ take read_limit bytes)) (sym c.as_slice.ensures.value) c.in_ok-input.ensures.read in
    IfOk-weaker c.write_reported.result _ _
    (λ verdict shown. (shown.0, reported_known known c.args.window first given verdict shown.0 read shown.1, shown.2)) c.write_reported.ensures.ok

pub returns-clause-fault : goal.returns-clause-fault
returns-clause-fault g c =
    let known = g.R.Read.remaining c.args.reader.now in
    let given : Option (List ℕ) = option_map (λ s. s.now) c.args.certificate in
    let first = c.as_slice.result.now in
    let read : IfSome known (λ bytes. first ≡ take read_limit bytes) = subst (λ (xs : List ℕ). IfSome known (λ bytes. xs ≡ take read_limit bytes)) (sym c.as_slice.ensures.value) c.in_ok-input.ensures.read in
    IfErr-weaker c.write_reported.result _ _
    (λ fault holds. IfSome_then known read (λ bytes is. run_fault_whole first bytes c.args.window given fault is holds)) c.write_reported.ensures.fault

pub returns-clause-reported : goal.returns-clause-reported
returns-clause-reported g c =
    let known = g.R.Read.remaining c.args.reader.now in
    let first = c.as_slice.result.now in
    let read : IfSome known (λ bytes. first ≡ take read_limit bytes) = subst (λ (xs : List ℕ). IfSome known (λ bytes. xs ≡ take read_limit bytes)) (sym c.as_slice.ensures.value) c.in_ok-input.ensures.read in
    IfErr-weaker c.write_reported.result _ _
    (λ fault holds no_memory no_device.
    let said = holds no_memory no_device in
    (said.0, IfSome_then known read (λ bytes is. subst (λ (xs : List ℕ). IsFaultText xs fault said.0) is said.1), said.2)) c.write_reported.ensures.reported
