use Rattle.mcv_rules.proofs.Rows
use Rattle.mcv_rules.proofs.laws.handles_send_by_their_rows.Goals as goal

pub returns-clause-pool : goal.returns-clause-pool
returns-clause-pool c = Rows.pool_row

pub returns-clause-null : goal.returns-clause-null
returns-clause-null c = λ s k o l h. h

pub returns-clause-error : goal.returns-clause-error
returns-clause-error c = λ s k o l h. h

pub returns-clause-all_sync : goal.returns-clause-all_sync
returns-clause-all_sync c = Rows.all_sync_row

pub returns-clause-all_initial : goal.returns-clause-all_initial
returns-clause-all_initial c = Rows.all_initial_row

pub returns-clause-all_async : goal.returns-clause-all_async
returns-clause-all_async c = Rows.all_async_row

pub returns-clause-failover : goal.returns-clause-failover
returns-clause-failover c = Rows.failover_row

pub returns-clause-miss_failover_reads : goal.returns-clause-miss_failover_reads
returns-clause-miss_failover_reads c = Rows.miss_failover_reads

pub returns-clause-miss_failover_writes : goal.returns-clause-miss_failover_writes
returns-clause-miss_failover_writes c = Rows.miss_failover_writes

pub returns-clause-warm_up_reads : goal.returns-clause-warm_up_reads
returns-clause-warm_up_reads c = Rows.warm_up_reads

pub returns-clause-warm_up_writes : goal.returns-clause-warm_up_writes
returns-clause-warm_up_writes c = Rows.warm_up_writes

pub returns-clause-migrate_before : goal.returns-clause-migrate_before
returns-clause-migrate_before c = Rows.migrate_before

pub returns-clause-migrate_deletes : goal.returns-clause-migrate_deletes
returns-clause-migrate_deletes c = Rows.migrate_deletes

pub returns-clause-migrate_first : goal.returns-clause-migrate_first
returns-clause-migrate_first c = Rows.migrate_first

pub returns-clause-migrate_second : goal.returns-clause-migrate_second
returns-clause-migrate_second c = Rows.migrate_second

pub returns-clause-migrate_after : goal.returns-clause-migrate_after
returns-clause-migrate_after c = Rows.migrate_after

pub returns-clause-prefix_selector : goal.returns-clause-prefix_selector
returns-clause-prefix_selector c = Rows.prefix_selector_row

pub returns-clause-operation_selector : goal.returns-clause-operation_selector
returns-clause-operation_selector c = Rows.operation_selector_row
