use Rattle.mcv_symbolic.proofs.StructureBySets.{symbols_are_independent}
use Rattle.mcv_symbolic.proofs.laws.symbols_are_independent.Goals as goal

pub returns : goal.returns
returns c = symbols_are_independent
