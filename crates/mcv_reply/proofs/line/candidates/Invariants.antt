use Rattle.std.proofs.Common.{◌≡◌, map, take}
use Rattle.mcv_reply.specs.Word.{has_cas, words}
use Rattle.mcv_reply.specs.Candidate.{new_candidate}
use Rattle.mcv_reply.proofs.line.candidates.Given as goal

abbrev pub invariant-loop-first : goal.invariant-loop-first
invariant-loop-first l = l.candidates.items ≡ map (new_candidate (has_cas l.row) l.key) (take l.first-index (words l.row))
