use Rattle.std.proofs.Common.{◌<◌, arith, refl, get_or, length}
use Rattle.std.proofs.lemmas.Int.Digits.{digits_more, digits_value_more}
use Rattle.std.specs.Char.{digit_value}
use Rattle.mcv_text.proofs.Numbers.{not_number, over}
use Rattle.mcv_text.proofs.words.number.Goals as goal

pub returns-in_err-digit : goal.returns-in_err-digit
returns-in_err-digit c = rw c.from_residual.ensures (λ n number. not_number c.args.word.now c.loop-b.b-index _ n c.args.limit (omega arith) refl c.in_err-digit.ensures number)

pub returns-in_err-checked_mul : goal.returns-in_err-checked_mul
returns-in_err-checked_mul c = rw c.from_residual-in_err-checked_mul.ensures (λ n number. over c.args.word.now c.loop-b.b-index c.loop-b.value 0 n c.args.limit (omega arith) c.loop-b.invariant.value_is (omega arith) (omega (arith, c.in_err-checked_mul.ensures)) number)

pub returns-in_err-value : goal.returns-in_err-value
returns-in_err-value c = rw c.from_residual-in_err-value.ensures (λ n number. over c.args.word.now c.loop-b.b-index c.loop-b.value c.in_ok-digit.digit n c.args.limit (omega arith) c.loop-b.invariant.value_is (omega (arith, c.in_ok-digit.ensures)) (omega (arith, c.in_ok-checked_mul.ensures, c.in_err-value.ensures)) number)

pub loop-b-preserved : goal.loop-b-preserved
loop-b-preserved c =
    let l : c.loop-b.b-index < length c.args.word.now = omega arith in
    let small : digit_value (get_or c.args.word.now c.loop-b.b-index 0) < 10 = omega (arith, c.in_ok-digit.ensures) in
    record {
      digits = digits_more 10 c.args.word.now c.loop-b.b-index l c.loop-b.invariant.digits small;
      value_is = omega (arith, digits_value_more 10 c.args.word.now c.loop-b.b-index l, c.loop-b.invariant.value_is, c.in_ok-digit.ensures, c.in_ok-checked_mul.ensures, c.in_ok-value.ensures);
    }
