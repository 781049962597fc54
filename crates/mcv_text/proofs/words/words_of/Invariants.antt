use Rattle.std.proofs.Common.{◌≡◌, length}
use Rattle.std.specs.Prelude.{vec_len, vec_capacity}
use Rattle.mcv_text.specs.Words.{words}
use Rattle.mcv_text.proofs.words.words_of.Given as goal

abbrev pub invariant-loop-word : goal.invariant-loop-word
invariant-loop-word l = record {
  can : (goal.iterator-loop-word).can_next l.word-iterator;
  finite : (goal.iterator-loop-word).is_finite l.word-iterator;
  room : vec_capacity l.words ≡ length (words l.line);
  kept : vec_len l.words ≡ length l.yielded;
  same : l.words.items ≡ l.yielded;
}
