use Rattle.std.proofs.Common.{option_map, take}
use Rattle.std.specs.List.{All}
use Rattle.mcv_alike.specs.Numbers.{IsNumbering, legs_value}
use Rattle.mcv_base.specs.declared.request.Moment.{Moment}
use Rattle.mcv_route.specs.Routes.{RoutesValue}
use Rattle.mcv_route.specs.View.{view}
use Rattle.mcv_mended.specs.Members.{IsAskedWell}
use Rattle.mcv_mended.proofs.mended.are_asked_well.Given as goal

-- it is so for the operations so far
abbrev pub invariant-loop-op : goal.invariant-loop-op
invariant-loop-op l = (r n : RoutesValue) → IsNumbering r n l.begun.sides.now.numbering.now
    → All (IsAskedWell r n (view l.begun.sides.now.before.now) (view l.begun.sides.now.after.now) l.rest (option_map (λ (m : Moment). m.0) l.since) (legs_value l.legs)) (take l.op-index l.operations)
