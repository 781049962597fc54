use Rattle.mcv_world.proofs.Choices
use Rattle.mcv_world.proofs.laws.hashes_make_choices.Goals as goal

pub returns-clause-choices : goal.returns-clause-choices
returns-clause-choices c = Choices.chosen_is_choice

pub returns-clause-eras : goal.returns-clause-eras
returns-clause-eras c = Choices.moments_have_eras
