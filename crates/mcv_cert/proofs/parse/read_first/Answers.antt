use Rattle.std.proofs.Common.{◌≡◌, ◌∷◌, ℕ, None, Option, Some}
use Rattle.std.specs.Prelude.{decimal}
use Rattle.mcv_cert.proofs.Meant.{some_is}
use Rattle.mcv_cert.proofs.Places.{first_word, not_empty, other_words}
use Rattle.mcv_cert.proofs.parse.read_first.Goals as goal

pub returns-in_default : goal.returns-in_default
returns-in_default c = λ n more small e. not_empty c.args.words.now (decimal n) more e c.in_default.len_below

pub returns-in_err-number : goal.returns-in_err-number
returns-in_err-number c = λ n more small e.
    let none : None ≡ Some n = c.in_err-number.ensures n small (first_word c.args.words.now (decimal n) more e) in
    absurd (cc)

pub returns : goal.returns
returns c = λ n more small e.
    let number = some_is c.in_ok-number.number n (c.in_ok-number.ensures n small (first_word c.args.words.now (decimal n) more e)) in
    (number, other_words c.args.words.now (decimal n) more e)
