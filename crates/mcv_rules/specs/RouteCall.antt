-- What a call asks of a route, and under which choice.
use Rattle.std.specs.Prelude.{ℕ, List, Option, refl}
use Rattle.std.specs.Coded.{Coded, code_by, coded×, coded_ℕ, coded_list, coded_option}
use Rattle.mcv_base.specs.declared.operation.Op.{Op}
use Rattle.mcv_base.specs.contracts.operation.Op.{the_row}
use Rattle.mcv_route.specs.Tree.{Tree}
use Rattle.mcv_route.specs.Codes.{tree_code}
use Rattle.mcv_route.specs.Situation.{Situation, asked}

pub record Called : Type 0 where
  pub tree : Tree
  pub op : Op
  pub rest : List ℕ
  -- the break at which the era began, and none in the first era
  pub since : Option ℕ
  -- the index of each symbol
  pub choice : List ℕ

-- the whole route is asked
abbrev pub situation_of : Called → Situation
situation_of call = asked call.op call.rest call.since

abbrev pub called_code : Coded Called
called_code =
    code_by (Tree × (Op × (List ℕ × (Option ℕ × List ℕ))))
    (coded× tree_code (coded× the_row.coded (coded× (coded_list coded_ℕ) (coded× (coded_option coded_ℕ) (coded_list coded_ℕ)))))
    (λ c. (c.tree, (c.op, (c.rest, (c.since, c.choice)))))
    (λ p. record { tree = p.0; op = p.1.0; rest = p.1.1.0; since = p.1.1.1.0; choice = p.1.1.1.1 })
    (λ _. refl)
