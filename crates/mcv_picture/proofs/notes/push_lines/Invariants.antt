use Rattle.std.proofs.Common.{◌≡◌, ◌++◌, drop, map}
use Rattle.std.specs.List.{flat_map}
use Rattle.mcv_picture.specs.Drawing.{if_line}
use Rattle.mcv_picture.proofs.notes.push_lines.Given as goal

-- the lines so far, and those that are left, are the whole
abbrev pub invariant-loop-part : goal.invariant-loop-part
invariant-loop-part l =
    map (λ v. v.items) l.lines.items ++ flat_map if_line (map (λ p. p.now) (drop l.part-index l.parts))
    ≡ map (λ v. v.items) l.fn.lines.items ++ flat_map if_line (map (λ p. p.now) l.parts)
