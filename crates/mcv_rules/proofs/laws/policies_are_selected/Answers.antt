use Rattle.mcv_rules.proofs.LongestPrefix
use Rattle.mcv_rules.proofs.Rows
use Rattle.mcv_rules.proofs.laws.policies_are_selected.Goals as goal

pub returns-clause-prefixes : goal.returns-clause-prefixes
returns-clause-prefixes c = LongestPrefix.longest_prefix_counts

pub returns-clause-operations : goal.returns-clause-operations
returns-clause-operations c = Rows.first_policy_counts
