use Rattle.mcv_reply.proofs.Reading.{IsReadTo}
use Rattle.mcv_reply.proofs.candidate.Candidate.read.Given as goal

abbrev pub invariant-loop-byte : goal.invariant-loop-byte
invariant-loop-byte l = IsReadTo l.cas l.key l.fn.self l.bytes l.byte-index l.candidate
