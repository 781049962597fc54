use Rattle.mcv_config.proofs.Limits.{read_configs_keep_to_limits}
use Rattle.mcv_config.proofs.SoundConfigs.{read_configs_are_sound}
use Rattle.mcv_config.proofs.read.read_json.Goals as goal

pub invariant_of-result : goal.invariant_of-result
invariant_of-result c = (read_configs_are_sound _ _ _ c.in_ok-parts-in-Ok.ensures, read_configs_keep_to_limits _ _ _ c.in_ok-parts-in-Ok.ensures)

pub returns-in_ok-parts-in-Ok-clause-sound : goal.returns-in_ok-parts-in-Ok-clause-sound
returns-in_ok-parts-in-Ok-clause-sound c = read_configs_are_sound _ _ _ c.in_ok-parts-in-Ok.ensures

pub returns-in_ok-parts-in-Ok-clause-limits : goal.returns-in_ok-parts-in-Ok-clause-limits
returns-in_ok-parts-in-Ok-clause-limits c = read_configs_keep_to_limits _ _ _ c.in_ok-parts-in-Ok.ensures
