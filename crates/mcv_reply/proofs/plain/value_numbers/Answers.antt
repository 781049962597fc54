use Rattle.mcv_reply.proofs.PlainLines.{value_written}
use Rattle.mcv_reply.proofs.plain.value_numbers.Goals as goal

pub returns : goal.returns
returns c = value_written c.args.cas c.args.key.now c.args.line.now c.in_ok-named.named.now c.in_ok-left.left.now c.numbers.result c.in_ok-named.ensures c.in_ok-left.ensures c.numbers.ensures
