use Rattle.std.proofs.Common.{◌≡◌, map, take}
use Rattle.mcv_base.specs.declared.request.Moment.{Moment}
use Rattle.mcv_mended.proofs.mended.are_same_moments.Given as goal

-- those so far are the same
abbrev pub invariant-loop-number : goal.invariant-loop-number
invariant-loop-number l = map (λ (m : Moment). m.0) (take l.number l.ones) ≡ map (λ (m : Moment). m.0) (take l.number l.others)
