use Rattle.std.proofs.Common.{◌≡◌, ◌∙◌, ℕ, suc, List, [], ◌∷◌, length, map, sym, ap, arith}
use Rattle.std.specs.Prelude.{decimal}
use Rattle.std.proofs.lemmas.Bool.{true≢false}
use Rattle.mcv_base.specs.Position.{position_text}
use Rattle.mcv_cert.specs.Pair.{all, names_legs}
use Rattle.mcv_cert.proofs.Meant.{not_some, some_is}
use Rattle.mcv_cert.proofs.Places.{sized, word_at, words_behind}
use Rattle.mcv_cert.proofs.parse.read_all.Goals as goal

pub returns-in_default-clause-meant : goal.returns-in_default-clause-meant
returns-in_default-clause-meant c = λ i ps small fits legs e.
    let count : length c.args.arguments.now ≡ suc (length (map position_text ps)) = sized c.args.arguments.now (decimal i ∷ map position_text ps) e in
    omega arith

pub returns-in_default-read_number-clause-meant : goal.returns-in_default-read_number-clause-meant
returns-in_default-read_number-clause-meant c = λ i ps small fits legs e. not_some c.read_number.result i c.in_default-read_number.is (c.read_number.ensures i small (word_at c.args.arguments.now (record { ref_ptr = (0, 0); now = [] }) 0 (decimal i ∷ map position_text ps) e (omega arith)))

pub returns-in_default-2-clause-meant : goal.returns-in_default-2-clause-meant
returns-in_default-2-clause-meant c = λ i ps small fits legs e.
    let some = c.in_ok-legs.ensures ps fits (words_behind c.args.arguments.now 1 (decimal i ∷ map position_text ps) e) in
    let none = rw c.in_default-2.is at some in none

pub returns-then-names_legs-clause-meant : goal.returns-then-names_legs-clause-meant
returns-then-names_legs-clause-meant c = λ i ps small fits legs e.
    let index = some_is c.in-Some.index i (c.in-Some.ensures i small (word_at c.args.arguments.now (record { ref_ptr = (0, 0); now = [] }) 0 (decimal i ∷ map position_text ps) e (omega arith))) in
    let some = c.in_ok-legs.ensures ps fits (words_behind c.args.arguments.now 1 (decimal i ∷ map position_text ps) e) in
    let are = rw c.in-Some-2.is at some in
    ap (λ (n : ℕ). all n c.in-Some-2.legs.items) index ∙ ap (all i) are

pub returns-then-names_legs-clause-legs : goal.returns-then-names_legs-clause-legs
returns-then-names_legs-clause-legs c = sym c.names_legs.ensures ∙ c.if-names_legs.true

pub returns-else-names_legs-clause-meant : goal.returns-else-names_legs-clause-meant
returns-else-names_legs-clause-meant c = λ i ps small fits legs e.
    let index = some_is c.in-Some.index i (c.in-Some.ensures i small (word_at c.args.arguments.now (record { ref_ptr = (0, 0); now = [] }) 0 (decimal i ∷ map position_text ps) e (omega arith))) in
    let some = c.in_ok-legs.ensures ps fits (words_behind c.args.arguments.now 1 (decimal i ∷ map position_text ps) e) in
    let are = rw c.in-Some-2.is at some in
    let same = ap (λ (n : ℕ). names_legs (all n c.in-Some-2.legs.items)) index ∙ ap (λ (xs : List (List ℕ)). names_legs (all i xs)) are in
    true≢false (sym legs ∙ sym same ∙ sym c.names_legs.ensures ∙ c.if-names_legs.false)
