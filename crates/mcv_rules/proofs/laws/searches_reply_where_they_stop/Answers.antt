use Rattle.mcv_rules.proofs.SearchStops
use Rattle.mcv_rules.proofs.laws.searches_reply_where_they_stop.Goals as goal

pub returns-clause-failover : goal.returns-clause-failover
returns-clause-failover c = SearchStops.failover_replies

pub returns-clause-miss_failover : goal.returns-clause-miss_failover
returns-clause-miss_failover c = SearchStops.miss_failover_replies
