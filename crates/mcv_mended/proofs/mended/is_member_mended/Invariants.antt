use Rattle.std.proofs.Common.{◌<◌, ℕ, Option}
use Rattle.mcv_base.specs.declared.operation.Op.{Op}
use Rattle.mcv_route.specs.Eras.{IsEraOf}
use Rattle.mcv_route.specs.Routes.{RoutesValue}
use Rattle.mcv_route.specs.View.{view}
use Rattle.mcv_alike.specs.Numbers.{IsNumbering, legs_value}
use Rattle.mcv_mended.specs.Members.{IsAskedWell}
use Rattle.mcv_mended.proofs.mended.is_member_mended.Given as goal

-- it is so in the eras so far
abbrev pub invariant-loop-era : goal.invariant-loop-era
invariant-loop-era l = (n : RoutesValue) → IsNumbering l.routes n l.begun.sides.now.numbering.now → (era : ℕ) (since : Option ℕ) → era < l.era → IsEraOf l.routes era since
    → (op : Op) → IsAskedWell l.routes n (view l.begun.sides.now.before.now) (view l.begun.sides.now.after.now) l.rest since (legs_value l.legs) op
