use Rattle.mcv_rules.proofs.Verdicts
use Rattle.mcv_rules.proofs.laws.plans_are_exact.Goals as goal

pub returns-clause-launched : goal.returns-clause-launched
returns-clause-launched c = Verdicts.launched_is_planned

pub returns-clause-reply : goal.returns-clause-reply
returns-clause-reply c = Verdicts.reply_is_planned

pub returns-clause-alike : goal.returns-clause-alike
returns-clause-alike c = Verdicts.replies_are_alike

pub returns-clause-hits : goal.returns-clause-hits
returns-clause-hits c = Verdicts.hit_is_planned
