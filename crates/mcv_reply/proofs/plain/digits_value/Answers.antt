use Rattle.std.proofs.Common.{arith}
use Rattle.mcv_reply.proofs.PlainLines.{all_read, are_more, value_more}
use Rattle.mcv_reply.proofs.plain.digits_value.Goals as goal

pub loop-byte-preserved : goal.loop-byte-preserved
loop-byte-preserved c =
    let digits = c.args.digits.now in
    let i = c.loop-byte.byte-index in
    let is = c.in_ok-digit.ensures in
    record {
      are = are_more digits i (omega arith) c.loop-byte.invariant.are is.0 is.1;
      value_is = value_more digits i c.loop-byte.value c.in_ok-digit.digit c.in_ok-value.value (omega arith) c.loop-byte.invariant.value_is is.2 c.in_ok-value.ensures.0;
      within = c.in_ok-value.ensures.1;
    }

pub returns : goal.returns
returns c = all_read c.args.digits.now c.loop-byte.byte-index c.loop-byte.value c.args.limit (omega arith) c.loop-byte.invariant.are c.loop-byte.invariant.value_is c.loop-byte.invariant.within
