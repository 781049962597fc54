use Rattle.mcv_rules.proofs.PlansAreSound
use Rattle.mcv_rules.proofs.laws.plans_are_sound.Goals as goal

pub returns-clause-sound : goal.returns-clause-sound
returns-clause-sound c = PlansAreSound.plan_sound

pub returns-clause-deletes : goal.returns-clause-deletes
returns-clause-deletes c = PlansAreSound.plan_for_delete
