use Rattle.std.proofs.Common.{◌≡◌, ◌++◌, drop, map}
use Rattle.mcv_draw.specs.Svg.{notes_from}
use Rattle.mcv_draw.proofs.vector.push_notes.Given as goal

-- what is written, and the notes that are left, are the whole
abbrev pub invariant-loop-number : goal.invariant-loop-number
invariant-loop-number l =
    l.text.items ++ notes_from l.rows l.number (map (λ n. n.items) (drop l.number l.notes)) ≡ l.fn.text.items ++ notes_from l.rows 0 (map (λ n. n.items) l.notes)
