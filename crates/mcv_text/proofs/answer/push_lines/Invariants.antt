use Rattle.std.proofs.Common.{◌≡◌, ◌++◌, take}
use Rattle.std.specs.List.{flat_map}
use Rattle.mcv_base.specs.Reply.{part_value}
use Rattle.mcv_text.specs.Answer.{line_end, reply_line}
use Rattle.mcv_text.proofs.answer.push_lines.Given as goal

abbrev pub invariant-loop-part : goal.invariant-loop-part
invariant-loop-part l = l.text.items ≡ l.initial.text.items ++ flat_map (λ part. reply_line (part_value part) ++ line_end) (take l.part-index l.parts)
