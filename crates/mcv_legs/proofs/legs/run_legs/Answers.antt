use Rattle.std.proofs.Common.{◌≡◌, ◌∙◌, List, ℕ, take, sym, subst, IfSome}
use Rattle.std.proofs.lemmas.Option.{IfSome_then}
use Rattle.std.proofs.lemmas.Result.{err_from_is_err_and}
use Rattle.mcv_legs.specs.Answer.{IsAnswer}
use Rattle.mcv_legs.specs.Fault.{IsRunFault}
use Rattle.mcv_legs.specs.Limits.{input_limit}
use Rattle.mcv_input.proofs.FirstBytes.{outside_of_any}
use Rattle.mcv_legs.proofs.Limits.{answer_of_all, fault_of_all}
use Rattle.mcv_legs.proofs.legs.run_legs.Goals as goal

pub returns-in_err-input-clause-fault : goal.returns-in_err-input-clause-fault
returns-in_err-input-clause-fault g c =
    let gone = err_from_is_err_and c.from_residual.result c.from_residual.ensures.1 in
    rw (gone.1)
    (subst (λ f. IfSome (g.R.Read.remaining c.args.reader.now) (λ input. IsRunFault input f)) (sym gone.2)
    (outside_of_any IsRunFault (g.R.Read.remaining c.args.reader.now) c.in_err-input.field-0.0 (λ bytes. tt) (λ bytes. tt) c.in_err-input.ensures.fault))

pub returns-clause-ok : goal.returns-clause-ok
returns-clause-ok g c = (
  c.as_slice-2.result.now,
  IfSome_then (g.R.Read.remaining c.args.reader.now) c.in_ok-input.ensures.read (λ bytes is.
      answer_of_all c.args.moment.0 bytes c.as_slice-2.result.now
      (subst (λ (input : List ℕ). IsAnswer c.args.moment.0 input c.as_slice-2.result.now) (c.as_slice.ensures.value ∙ is)
      (subst (λ (text : List ℕ). IsAnswer c.args.moment.0 c.as_slice.result.now text) (sym c.as_slice-2.ensures.value) c.in_ok-text.ensures.ok))),
  c.in_ok-write_text.ensures.written,
)

pub returns-in_err-text-clause-fault : goal.returns-in_err-text-clause-fault
returns-in_err-text-clause-fault g c =
    let gone = err_from_is_err_and c.from_residual-in_err-text.result c.from_residual-in_err-text.ensures.1 in
    let fault = c.in_err-text.field-0.0 in
    rw (gone.1)
    (subst (λ f. IfSome (g.R.Read.remaining c.args.reader.now) (λ input. IsRunFault input f)) (sym gone.2)
    (IfSome_then (g.R.Read.remaining c.args.reader.now) c.in_ok-input.ensures.read (λ bytes is.
    let read : c.as_slice.result.now ≡ take input_limit bytes = c.as_slice.ensures.value ∙ is in
    fault_of_all bytes fault (subst (λ (input : List ℕ). IsRunFault input fault) read c.in_err-text.ensures.fault))))
