use Rattle.std.proofs.Common.{◌∙◌, ap}
use Rattle.mcv_tally.specs.Words.{tallied_words}
use Rattle.mcv_tally.proofs.CountedWordsAreShown.{counts_cause, counts_outcome}
use Rattle.mcv_tally.proofs.tally.Tally.note_answer.Goals as goal

pub count_word-requires : goal.count_word-requires
count_word-requires c = counts_outcome _ c.as_slice.result.now c.reply_word.result.now (ap tallied_words c.as_slice.ensures.value ∙ c.args.self.now.words.1) c.reply_word.ensures

pub count_word-requires-in-Err : goal.count_word-requires-in-Err
count_word-requires-in-Err c = counts_cause _ c.as_slice-in-Err.result.now c.cause_word.result.now (ap tallied_words c.as_slice-in-Err.ensures.value ∙ c.args.self.now.words.2) c.cause_word.ensures
