use Rattle.std.proofs.Common.{◌∙◌, ap}
use Rattle.mcv_tally.specs.Words.{tallied_words}
use Rattle.mcv_tally.proofs.CountedWordsAreShown.{counts_operation}
use Rattle.mcv_tally.proofs.tally.Tally.note_asked.Goals as goal

pub count_word-requires : goal.count_word-requires
count_word-requires c = counts_operation c.args.op c.as_slice.result.now c.name.result.now (ap tallied_words c.as_slice.ensures.value ∙ c.args.self.now.words.0) c.name.ensures
