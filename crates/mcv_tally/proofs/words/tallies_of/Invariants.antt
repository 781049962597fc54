use Rattle.std.proofs.Common.{◌≡◌, map, take}
use Rattle.mcv_tally.specs.Words.{tallied_words}
use Rattle.mcv_tally.proofs.words.tallies_of.Given as goal

abbrev pub invariant-loop-word : goal.invariant-loop-word
invariant-loop-word l = tallied_words l.tallies.items ≡ map (λ w. w.now) (take l.word-index l.words)
