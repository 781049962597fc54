use Rattle.mcv_spool.proofs.Records.{key_short, reads_back}
use Rattle.mcv_spool.proofs.record.SpoolRecord.spelled.Goals as goal

pub returns-clause-reads : goal.returns-clause-reads
returns-clause-reads c = reads_back c.args.self.now c.as_bytes-server.ensures.valid c.as_bytes-rest.ensures.valid c.as_bytes-server.ensures.short (key_short c.args.self.now.rest c.as_bytes-rest.ensures.valid)
