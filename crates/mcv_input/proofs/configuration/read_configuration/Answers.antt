use Rattle.std.proofs.Common.{◌≡◌, ◌∙◌, List, ℕ, take, IfSome, sym, subst}
use Rattle.std.proofs.lemmas.Option.{IfSome_then}
use Rattle.std.proofs.lemmas.Result.{err_from_is_err_and}
use Rattle.mcv_input.specs.Fault.{AreNamedBy, IsInputFault}
use Rattle.mcv_input.specs.declared.fault.RunFault.{RunFault}
use Rattle.mcv_input.proofs.FirstBytes.{fault_of_known, named_by_all, outside_of_any, read_limit}
use Rattle.mcv_input.proofs.configuration.read_configuration.Goals as goal

pub returns-in_err-input-clause-fault : goal.returns-in_err-input-clause-fault
returns-in_err-input-clause-fault g c =
    let known = g.R.Read.remaining c.args.reader.now in
    let gone = err_from_is_err_and c.from_residual.result c.from_residual.ensures.1 in
    rw (gone.1)
    (subst (λ (fault : RunFault). IfSome known (λ input. IsInputFault input fault)) (sym gone.2)
    (outside_of_any IsInputFault known c.in_err-input.field-0.0 (λ bytes. tt) (λ bytes. tt) c.in_err-input.ensures.fault))

pub returns-in_err-read_routes-clause-fault : goal.returns-in_err-read_routes-clause-fault
returns-in_err-read_routes-clause-fault g c =
    let known = g.R.Read.remaining c.args.reader.now in
    let same = c.as_slice.ensures.value in
    let read : IfSome known (λ bytes. c.as_slice.result.now ≡ take read_limit bytes) = subst (λ (text : List ℕ). IfSome known (λ bytes. text ≡ take read_limit bytes)) (sym same) c.in_ok-input.ensures.read in
    let gone = err_from_is_err_and c.from_residual-in_err-read_routes.result c.from_residual-in_err-read_routes.ensures.1 in
    rw (gone.1)
    (subst (λ (fault : RunFault). IfSome known (λ input. IsInputFault input fault)) (sym gone.2)
    (fault_of_known known c.as_slice.result.now c.in_err-read_routes.field-0.0 read c.in_err-read_routes.ensures.fault))

pub returns-clause-named : goal.returns-clause-named
returns-clause-named g c =
    IfSome_then (g.R.Read.remaining c.args.reader.now) c.in_ok-input.ensures.read (λ bytes is.
    named_by_all bytes c.in_ok-read_routes.field-0 (subst (λ (text : List ℕ). AreNamedBy text c.in_ok-read_routes.field-0) (c.as_slice.ensures.value ∙ is) c.in_ok-read_routes.ensures.named))
