use Rattle.std.proofs.Common.{◌≡◌, ◌++◌, take, codes}
use Rattle.std.specs.List.{flat_map}
use Rattle.mcv_base.specs.Position.{position_text}
use Rattle.mcv_cert.proofs.write.push_positions.Given as goal

abbrev pub invariant-loop-position : goal.invariant-loop-position
invariant-loop-position l = l.text.items ≡ l.fn.text.items ++ flat_map (λ p. codes " " ++ position_text p) (take l.position-index l.positions)
