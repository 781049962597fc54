use Rattle.mcv_pools.proofs.Tables.{one_to_one}
use Rattle.mcv_pools.proofs.Sameness.{same_symbol-Decides}
use Rattle.mcv_pools.specs.Symbol.{same_symbol}
use Rattle.mcv_pools.proofs.symbols.Symbols.len.Goals as goal

pub returns-clause-one_to_one : goal.returns-clause-one_to_one
returns-clause-one_to_one c = rw (← c.self.view_is) (one_to_one same_symbol same_symbol-Decides _ c.len.ensures.unique)
