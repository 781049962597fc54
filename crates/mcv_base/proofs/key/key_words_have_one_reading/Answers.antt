use Rattle.mcv_base.proofs.Prefixes.{no_rest, one_reading}
use Rattle.mcv_base.proofs.key.key_words_have_one_reading.Goals as goal

pub returns-clause-one : goal.returns-clause-one
returns-clause-one c = one_reading

pub returns-clause-no_rest : goal.returns-clause-no_rest
returns-clause-no_rest c word prefix rest fault cut = no_rest word prefix rest fault.1 cut
