use Rattle.mcv_rules.proofs.Times
use Rattle.mcv_rules.proofs.laws.answers_come_with_children.Goals as goal

pub returns-clause-all : goal.returns-clause-all
returns-clause-all c = Times.time_of_all_sync

pub returns-clause-error : goal.returns-clause-error
returns-clause-error c = Times.time_after_error

pub returns-clause-miss : goal.returns-clause-miss
returns-clause-miss c = Times.time_after_miss

pub returns-clause-stable : goal.returns-clause-stable
returns-clause-stable c = Times.replies_are_stable
