use Rattle.std.proofs.Common.{ℕ, List, Bor, arith, sym, ◌∙◌}
use Rattle.std.proofs.lemmas.List.Folds.{list_all-map, list_all_at}
use Rattle.mcv_base.specs.Key.{is_key_word}
use Rattle.mcv_text.proofs.line.keys_of.Goals as goal

pub returns-then-not-is_key_word : goal.returns-then-not-is_key_word
returns-then-not-is_key_word c =
    list_all-map is_key_word (λ (w : Bor (List ℕ)). w.now) c.args.words.now
    ∙ list_all_at (λ (w : Bor (List ℕ)). is_key_word w.now) c.args.words.now c.loop-word.word-index _ (omega arith) (sym c.is_key_word.ensures ∙ c.if-not-is_key_word.true)
