use Rattle.std.proofs.Common.{◌∙◌, Vec, Global, ℕ, ap, map}
use Rattle.mcv_desks.proofs.OneKeys.{no_word, one_word}
use Rattle.mcv_desks.proofs.one_key.word_alone.Goals as goal

pub returns-in-Some : goal.returns-in-Some
returns-in-Some c = one_word c.args.words.now c.args.key c.in-Some.word c.as_slice.result.now c.list_of_one.result c.in-Some.ensures.lookup c.as_slice.ensures.value c.list_of_one.ensures

pub returns-in-None : goal.returns-in-None
returns-in-None c = ap (map (λ (word : Vec ℕ Global). word.items)) c.new.ensures.items ∙ no_word c.args.words.now c.args.key c.in-None.ensures.lookup
