use Rattle.std.proofs.Common.{arith}
use Rattle.mcv_comments.proofs.Insides.{scanned_end, scanned_escape}
use Rattle.mcv_comments.proofs.front.text_end.Goals as goal

pub returns-in-34 : goal.returns-in-34
returns-in-34 c = (
  omega arith,
  c.in-34.is,
  scanned_end c.args.body.now c.loop-place.place (omega arith) c.loop-place.invariant,
)

pub loop-place-preserved-in-92 : goal.loop-place-preserved-in-92
loop-place-preserved-in-92 c = scanned_escape c.args.body.now c.loop-place.place (omega arith) c.in-92.is c.loop-place.invariant
