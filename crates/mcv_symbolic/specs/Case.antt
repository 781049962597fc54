-- What the checker looks at at once: a route that is asked for one operation at a rest in an era, under any choice (own).
use Rattle.std.specs.Prelude.{ℕ, List, Option, refl}
use Rattle.std.specs.Coded.{Coded, code_by, coded×, coded_ℕ, coded_list, coded_option}
use Rattle.mcv_base.specs.declared.operation.Op.{Op}
use Rattle.mcv_base.specs.contracts.operation.Op.{the_row}
use Rattle.mcv_route.specs.Tree.{Tree}
use Rattle.mcv_route.specs.Codes.{tree_code}
use Rattle.mcv_route.specs.Situation.{Situation, asked}

pub record CaseValue : Type 0 where
  pub tree : Tree
  pub op : Op
  pub rest : List ℕ
  -- the break at which the era began, and none in the first era
  pub since : Option ℕ

-- the whole route is asked
abbrev pub situation_of : CaseValue → Situation
situation_of c = asked c.op c.rest c.since

abbrev pub case_code : Coded CaseValue
case_code =
    code_by (Tree × (Op × (List ℕ × Option ℕ))) (coded× tree_code (coded× the_row.coded (coded× (coded_list coded_ℕ) (coded_option coded_ℕ))))
    (λ c. (c.tree, (c.op, (c.rest, c.since))))
    (λ p. record { tree = p.0; op = p.1.0; rest = p.1.1.0; since = p.1.1.1 })
    (λ _. refl)
