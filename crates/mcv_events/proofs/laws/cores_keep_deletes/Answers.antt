use Rattle.mcv_events.proofs.CoresKeepDeletes
use Rattle.mcv_events.proofs.laws.cores_keep_deletes.Goals as goal

pub returns-clause-opened : goal.returns-clause-opened
returns-clause-opened c = CoresKeepDeletes.opened_is_core

pub returns-clause-opening : goal.returns-clause-opening
returns-clause-opening c = CoresKeepDeletes.spooled_rows_open

pub returns-clause-runs : goal.returns-clause-runs
returns-clause-runs c = CoresKeepDeletes.runs_are_moves

pub returns-clause-kept : goal.returns-clause-kept
returns-clause-kept c = CoresKeepDeletes.cores_keep_deletes
