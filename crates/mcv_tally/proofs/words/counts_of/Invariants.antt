use Rattle.std.proofs.Common.{◌≡◌, take}
use Rattle.mcv_tally.specs.Words.{counted_words, tallied_words}
use Rattle.mcv_tally.proofs.words.counts_of.Given as goal

abbrev pub invariant-loop-tally : goal.invariant-loop-tally
invariant-loop-tally l = counted_words l.counts.items ≡ tallied_words (take l.tally-index l.tallies)
