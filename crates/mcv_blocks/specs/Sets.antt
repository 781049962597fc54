-- A route at a rest in an era, as the sets of a block see it (own).
use Rattle.std.specs.Prelude.{◌≡◌, ℕ, List, Option, refl}
use Rattle.std.specs.Coded.{Coded, code_by, coded×, coded_ℕ, coded_list, coded_option}
use Rattle.mcv_base.specs.declared.operation.Op.TheVariants.{Decr, Delete, Get, Gets, Incr}
use Rattle.mcv_route.specs.Codes.{tree_code}
use Rattle.mcv_route.specs.Tree.{Tree}
use Rattle.mcv_symbolic.specs.Case.{CaseValue}

pub record SetsValue : Type 0 where
  pub tree : Tree
  pub rest : List ℕ
  -- the break at which the era began, and none in the first era
  pub since : Option ℕ

abbrev pub sets_code : Coded SetsValue
sets_code =
    code_by (Tree × (List ℕ × Option ℕ)) (coded× tree_code (coded× (coded_list coded_ℕ) (coded_option coded_ℕ)))
    (λ s. (s.tree, (s.rest, s.since)))
    (λ p. record { tree = p.0; rest = p.1.0; since = p.1.1 })
    (λ _. refl)

-- one route at one rest in one era, asked for a delete, a get, a gets, an incr and a decr
pub record AreCases (delete get gets incr decr : CaseValue) : Type 0 where
  pub deleting : delete.op ≡ Delete
  pub getting : get ≡ record delete { op = Get }
  pub getting_all : gets ≡ record delete { op = Gets }
  pub raising : incr ≡ record delete { op = Incr }
  pub lowering : decr ≡ record delete { op = Decr }
