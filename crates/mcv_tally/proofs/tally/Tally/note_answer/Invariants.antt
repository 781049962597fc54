use Rattle.std.specs.Prelude.{⊤}
use Rattle.mcv_tally.proofs.tally.Tally.note_answer.Given as goal

abbrev pub invariant-loop-reply : goal.invariant-loop-reply
invariant-loop-reply l = ⊤
