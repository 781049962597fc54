-- Sizes for the symbols of any one tree: the laws that ask for no size hold of every tree.
use Rattle.std.proofs.Common.{ℕ, List, replicate, arith}
use Rattle.std.proofs.lemmas.List.{length-replicate}
use Rattle.mcv_route.specs.Tree.{Tree}
use Rattle.mcv_route.specs.WellFormedTrees.{IsWellFormed}
use Rattle.mcv_rules.proofs.PlansAreSound.{above, well}

abbrev pub sizes_for : Tree → List ℕ
sizes_for t = replicate (above t) 0

pub formed : (t : Tree) → IsWellFormed (sizes_for t) t
formed t = well (sizes_for t) t (omega (arith, length-replicate {A = ℕ} (above t) 0))
