use Rattle.mcv_events.proofs.Entries
use Rattle.mcv_events.proofs.laws.legs_are_entries.Goals as goal

pub returns-clause-laid_out : goal.returns-clause-laid_out
returns-clause-laid_out c = Entries.calls_are_laid_out

pub returns-clause-launched : goal.returns-clause-launched
returns-clause-launched c = Entries.launched_are_entries

pub returns-clause-fresh : goal.returns-clause-fresh
returns-clause-fresh c = Entries.fresh_are_entries

pub returns-clause-settled : goal.returns-clause-settled
returns-clause-settled c = Entries.settled_by_entries

pub returns-clause-queued : goal.returns-clause-queued
returns-clause-queued c = Entries.queued_one_by_one

pub returns-clause-members : goal.returns-clause-members
returns-clause-members c = Entries.laid_out_by_members
