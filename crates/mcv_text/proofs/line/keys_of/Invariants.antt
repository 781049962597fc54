use Rattle.std.proofs.Common.{◌≡◌, true, map, take, length}
use Rattle.std.specs.Prelude.{vec_len, vec_capacity}
use Rattle.std.specs.List.{list_all}
use Rattle.mcv_base.specs.Key.{is_key_word}
use Rattle.mcv_text.proofs.line.keys_of.Given as goal

abbrev pub invariant-loop-word : goal.invariant-loop-word
invariant-loop-word l = record {
  each : list_all is_key_word (map (λ w. w.now) (take l.word-index l.words)) ≡ true;
  room : vec_capacity l.keys ≡ length l.words;
  kept : vec_len l.keys ≡ l.word-index;
  same : map (λ key. key.items) l.keys.items ≡ map (λ w. w.now) (take l.word-index l.words);
}
