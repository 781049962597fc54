use Rattle.mcv_judge.proofs.Bridge.{ended}
use Rattle.mcv_judge.proofs.judging.judge_end.Goals as goal

pub returns : goal.returns
returns c = ended c.args.pairs.now c.requires _ c.is_empty.ensures _ c.unless.ensures
