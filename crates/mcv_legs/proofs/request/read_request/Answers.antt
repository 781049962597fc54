use Rattle.std.proofs.Common.{◌∙◌, ◌+◌, List, ℕ, sym, ap, subst, take}
use Rattle.std.proofs.lemmas.List.{take_rest}
use Rattle.mcv_base.specs.Key.{IsCut, is_key_word}
use Rattle.mcv_legs.proofs.Lines.{no_line, no_space, space_cuts, no_key, asks_at, some_word}
use Rattle.mcv_legs.proofs.request.read_request.Goals as goal

pub returns-in_err-end : goal.returns-in_err-end
returns-in_err-end c = rw c.from_residual.ensures (no_line c.args.input.now c.in_err-end.ensures)

pub returns-in_err-space : goal.returns-in_err-space
returns-in_err-space c =
    rw c.from_residual-in_err-space.ensures (no_space c.args.input.now c.in_ok-end.end c.in_ok-end.ensures c.in_err-space.ensures)

pub returns-in_err-op : goal.returns-in_err-op
returns-in_err-op c =
    rw c.from_residual-in_err-op.ensures (λ op prefix rest configuration asks.
    c.in_err-op.ensures op
    (sym (space_cuts c.args.input.now op prefix rest configuration c.in_ok-end.end c.in_ok-space.space asks c.in_ok-end.ensures c.in_ok-space.ensures).0))

pub returns-in-Ok : goal.returns-in-Ok
returns-in-Ok c =
    let line = take c.in_ok-end.end c.args.input.now in
    let key = take_rest line (c.in_ok-space.space + 1) in
    rw (take_rest c.args.input.now (c.in_ok-end.end + 1))
    (asks_at c.args.input.now c.in_ok-op.op c.in-Ok.prefix c.in-Ok.rest c.in_ok-end.end c.in_ok-space.space c.in_ok-end.ensures c.in_ok-space.ensures
    c.in_ok-op.ensures (ap is_key_word (sym key) ∙ c.in-Ok.ensures.word) (subst (λ (word : List ℕ). IsCut word c.in-Ok.prefix c.in-Ok.rest) key c.in-Ok.ensures.cut)
    (some_word c.in-Ok.rest c.as_bytes.ensures.valid))

pub returns-in-Err : goal.returns-in-Err
returns-in-Err c = λ op prefix rest configuration asks.
    let line = take c.in_ok-end.end c.args.input.now in
    let cut = space_cuts c.args.input.now op prefix rest configuration c.in_ok-end.end c.in_ok-space.space asks c.in_ok-end.ensures c.in_ok-space.ensures in
    no_key asks.key prefix rest c.in-Err.field-0 (rw (← (take_rest line (c.in_ok-space.space + 1) ∙ cut.1)) c.in-Err.ensures.fault) asks.is_key asks.cut asks.some
