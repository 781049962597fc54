use Rattle.std.proofs.Common.{◌≡◌, map, drop}
use Rattle.std.specs.List.{find}
use Rattle.mcv_base.specs.Reply.{part_value}
use Rattle.mcv_text.specs.Answer.{is_fault}
use Rattle.mcv_text.proofs.answer.first_fault.Given as goal

-- the first error comes behind the parts that were looked at
abbrev pub invariant-loop-part : goal.invariant-loop-part
invariant-loop-part l = find is_fault (map part_value (drop l.part-index l.parts)) ≡ find is_fault (map part_value l.parts)
