-- How two lists of legs that rise by position become one. Only private contracts cite this, and `leaf_of`.
use Rattle.std.specs.Prelude.{List, [], ◌∷◌, map}
use Rattle.std.specs.Borrow.{Bor}
use Rattle.std.specs.declared.cmp.Ordering.TheVariants.{Less, Equal, Greater}
use Rattle.mcv_cert.specs.Pair.{list_cmp}
use Rattle.mcv_judge.specs.PairsInMemory.{numbers}
use Rattle.mcv_judge.specs.Reason.{LegValue}
use Rattle.mcv_rules.specs.declared.plan.PlannedLeg.{PlannedLeg}

-- a leg of a plan as a block has it
abbrev pub leaf_of : PlannedLeg → LegValue
leaf_of l = record { position = l.position; symbol = l.symbol; servers = numbers l.servers.value.items }

abbrev pub leaves_of : List (Bor PlannedLeg) → List LegValue
leaves_of ls = map (λ (l : Bor PlannedLeg). leaf_of l.now) ls

-- this leg and more among others: of two at one position the first
abbrev pub merge_from : LegValue → (List LegValue → List LegValue) → List LegValue → List LegValue
merge_from k more [] = k ∷ more []
merge_from k more (l ∷ ls) = elim (list_cmp k.position l.position) [ Less ↦ k ∷ more (l ∷ ls) | Equal ↦ k ∷ more ls | Greater ↦ l ∷ merge_from k more ls ]

abbrev pub merge : List LegValue → List LegValue → List LegValue
merge [] ls = ls
merge (k ∷ ks) ls = merge_from k (merge ks) ls
