use Rattle.std.proofs.Common.{◌≡◌, ◌++◌, map, drop}
use Rattle.mcv_base.specs.Reply.{part_value}
use Rattle.mcv_text.specs.Answer.{hits_text}
use Rattle.mcv_text.proofs.answer.push_hits.Given as goal

-- the text and the hits that are left are the whole
abbrev pub invariant-loop-part : goal.invariant-loop-part
invariant-loop-part l =
    l.text.items ++ hits_text l.op (map (λ key. key.items) l.left) (map part_value (drop l.part-index l.parts))
    ≡ l.initial.text.items ++ hits_text l.op (map (λ key. key.items) l.fn.keys) (map part_value l.parts)
