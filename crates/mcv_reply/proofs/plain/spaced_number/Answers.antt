use Rattle.std.proofs.Common.{drop, arith}
use Rattle.std.proofs.lemmas.List.{length-drop, take_all}
use Rattle.mcv_reply.proofs.PlainLines.{number_read}
use Rattle.mcv_reply.proofs.plain.spaced_number.Goals as goal

pub returns : goal.returns
returns c =
    let digits = c.in_ok-digits.digits.now in
    let count = c.in_ok-count.count in
    number_read c.args.limit c.in_ok-value.value count c.args.bytes.now digits _ c.in_ok-digits.ensures (omega arith) c.in_ok-count.ensures.0.high c.in_ok-value.ensures
    (take_all _ (drop count digits) (omega (arith, length-drop count digits)))
