use Rattle.std.proofs.Common.{◌≡◌, take}
use Rattle.std.specs.Prelude.{sum_by, vec_len}
use Rattle.mcv_plan.specs.Counts.{capped}
use Rattle.mcv_hub.proofs.weight.words_bytes.Given as goal

abbrev pub invariant-loop-word : goal.invariant-loop-word
invariant-loop-word l = l.total ≡ capped (sum_by (λ word. vec_len word) (take l.word-index l.words))
