use Rattle.std.proofs.Common.{◌≡◌, take}
use Rattle.std.specs.List.{flat_map}
use Rattle.mcv_legs.specs.Text.{leg_line}
use Rattle.mcv_legs.proofs.text.legs_text.Given as goal

abbrev pub invariant-loop-leg : goal.invariant-loop-leg
invariant-loop-leg l = l.text.items ≡ flat_map (leg_line l.servers) (take l.leg-index l.legs)
