use Rattle.mcv_rules.proofs.Leaves
use Rattle.mcv_rules.proofs.SentOnce
use Rattle.mcv_rules.proofs.Operations
use Rattle.mcv_rules.proofs.laws.legs_are_of_pools.Goals as goal

pub returns-clause-once : goal.returns-clause-once
returns-clause-once c = SentOnce.legs_are_sent_once

pub returns-clause-pools : goal.returns-clause-pools
returns-clause-pools c = Leaves.legs_are_of_pools

pub returns-clause-operation : goal.returns-clause-operation
returns-clause-operation c = Operations.legs_have_the_operation

pub returns-clause-own : goal.returns-clause-own
returns-clause-own c = Operations.own_operation

pub returns-clause-shadows : goal.returns-clause-shadows
returns-clause-shadows c = SentOnce.shadows_are_marked
