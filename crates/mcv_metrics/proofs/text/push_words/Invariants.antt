use Rattle.std.proofs.Common.{◌≡◌, ◌++◌, take}
use Rattle.std.specs.List.{flat_map}
use Rattle.mcv_metrics.specs.Text.{word_sample}
use Rattle.mcv_metrics.proofs.text.push_words.Given as goal

abbrev pub invariant-loop-word : goal.invariant-loop-word
invariant-loop-word l = l.text.items ≡ l.fn.text.items ++ flat_map (word_sample l.metric) (take l.word-index l.words)
