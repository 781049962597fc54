-- What the rules of a handle depend on beside the tree.
use Rattle.std.specs.Prelude.{ℕ, List, [], ◌∷◌, ◌++◌, Bool, false, Option, Some, None, nat_le}
use Rattle.mcv_base.specs.declared.operation.Op.{Op}
use Rattle.mcv_base.specs.declared.operation.Op.TheVariants.{Add}
use Rattle.mcv_base.specs.declared.operation.Mark.{Mark}
use Rattle.mcv_base.specs.declared.operation.Mark.TheVariants.{Plain, Async, Shadow}
use Rattle.mcv_base.specs.declared.operation.Mark.TheVariants.{Add as Added}

pub record Situation : Type 0 where
  pub op : Op
  pub rest : List ℕ
  -- the break at which the era began, and none in the first era
  pub since : Option ℕ
  -- the mark of a leg that no handle below marks
  pub mark : Mark
  -- the handle's position
  pub position : List ℕ

-- that of child k
abbrev pub under : ℕ → Situation → Situation
under k s = record s { position = s.position ++ k ∷ [] }

-- the whole route is asked
abbrev pub asked : Op → List ℕ → Option ℕ → Situation
asked op rest since = record { op = op; rest = rest; since = since; mark = Plain; position = [] }

-- the era began at the moment or after it
abbrev pub has_passed : Option ℕ → ℕ → Bool
has_passed None moment = false
has_passed (Some began) moment = nat_le moment began

abbrev pub marked_async : Mark → Mark
marked_async Plain = Async
marked_async Async = Async
marked_async Added = Added
marked_async Shadow = Shadow

abbrev pub marked_add : Mark → Mark
marked_add Shadow = Shadow
marked_add _ = Added

abbrev pub asynchronous : Situation → Situation
asynchronous s = record s { mark = marked_async s.mark }

abbrev pub shadowed : Situation → Situation
shadowed s = record s { mark = Shadow }

-- the add that a warm-up sends
abbrev pub adding : Situation → Situation
adding s = record s { op = Add; mark = marked_add s.mark }
