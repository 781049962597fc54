use Rattle.std.proofs.Common.{◌≡◌, ◌<◌, ◌^◌, map, take}
use Rattle.mcv_draw.specs.Svg.{widest_note}
use Rattle.mcv_draw.proofs.vector.widest_note.Given as goal

abbrev pub invariant-loop-note : goal.invariant-loop-note
invariant-loop-note l = (l.width ≡ widest_note (map (λ n. n.items) (take l.note-index l.notes))) × (l.width < 2 ^ 15)
