use Rattle.mcv_text.proofs.Numbers.{number_is}
use Rattle.mcv_text.proofs.words.number_of.Goals as goal

pub returns-clause-value : goal.returns-clause-value
returns-clause-value c = number_is c.args.word.now c.args.limit c.number.result c.number.ensures
