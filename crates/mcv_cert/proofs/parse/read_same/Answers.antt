use Rattle.std.proofs.Common.{◌∙◌, ℕ, [], ◌∷◌, ap, arith}
use Rattle.std.specs.Prelude.{decimal}
use Rattle.mcv_base.specs.Position.{position_text}
use Rattle.mcv_cert.specs.Pair.{same}
use Rattle.mcv_cert.proofs.Meant.{not_some, some_is}
use Rattle.mcv_cert.proofs.Places.{word_at}
use Rattle.mcv_cert.proofs.parse.read_same.Goals as goal

pub returns-in_default-read_number-clause-meant : goal.returns-in_default-read_number-clause-meant
returns-in_default-read_number-clause-meant c = λ i p small fits e. not_some c.read_number.result i c.in_default-read_number.is (c.read_number.ensures i small (word_at c.args.arguments.now (record { ref_ptr = (0, 0); now = [] }) 0 (decimal i ∷ position_text p ∷ []) e (omega arith)))

pub returns-in_default-2-clause-meant : goal.returns-in_default-2-clause-meant
returns-in_default-2-clause-meant c = λ i p small fits e.
    let some = c.in_ok-leg.ensures p fits (word_at c.args.arguments.now (record { ref_ptr = (0, 0); now = [] }) 1 (decimal i ∷ position_text p ∷ []) e (omega arith)) in
    let none = rw c.in_default-2.is at some in none

pub returns-clause-meant : goal.returns-clause-meant
returns-clause-meant c = λ i p small fits e.
    let index = some_is c.in-Some.index i (c.in-Some.ensures i small (word_at c.args.arguments.now (record { ref_ptr = (0, 0); now = [] }) 0 (decimal i ∷ position_text p ∷ []) e (omega arith))) in
    let some = c.in_ok-leg.ensures p fits (word_at c.args.arguments.now (record { ref_ptr = (0, 0); now = [] }) 1 (decimal i ∷ position_text p ∷ []) e (omega arith)) in
    let leg = rw c.in-Some-2.is at some in
    ap (λ (n : ℕ). same n c.in-Some-2.leg) index ∙ ap (same i) leg
