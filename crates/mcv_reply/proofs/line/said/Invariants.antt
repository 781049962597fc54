use Rattle.mcv_reply.specs.Word.{has_cas}
use Rattle.mcv_reply.proofs.Lines.{NoneEnds}
use Rattle.mcv_reply.proofs.line.said.Given as goal

abbrev pub invariant-loop-candidate : goal.invariant-loop-candidate
invariant-loop-candidate l = NoneEnds (has_cas l.fn.row) l.candidate-items l.candidate-index
