use Rattle.std.proofs.Common.{◌≡◌, ◌++◌, List, ℕ, length, arith, sym, subst, ◌∙◌}
use Rattle.std.proofs.lemmas.Bool.{eqb-true, eqb-false}
use Rattle.mcv_reply.specs.Candidate.{IsKept}
use Rattle.mcv_reply.proofs.Steps.{none_left}
use Rattle.mcv_reply.proofs.line.go_on.Goals as goal

pub returns-then-is_empty : goal.returns-then-is_empty
returns-then-is_empty c = none_left c.args.row c.args.key.now (c.args.text.now.items ++ c.args.bytes.now) c.narrowed.result.items (c.narrowed.ensures c.args.text.now.items c.requires.kept) (eqb-true _ 0 (sym c.is_empty.ensures ∙ c.if-is_empty.true))

pub returns-in-Ok : goal.returns-in-Ok
returns-in-Ok c = (c.in-Ok.ensures.items, subst (λ (t : List ℕ). IsKept c.args.row c.args.key.now t c.narrowed.result.items) (sym c.in-Ok.ensures.items) (c.narrowed.ensures c.args.text.now.items c.requires.kept), (let some : length c.narrowed.result.items ≡ 0 → ⊥ = eqb-false _ 0 (sym c.is_empty.ensures ∙ c.if-is_empty.false) in omega arith))
