use Rattle.std.proofs.Common.{◌≡◌, ap, sym, arith, ◌∙◌, ◌++◌, map, [], drop}
use Rattle.std.proofs.lemmas.List.{drop_all, append-nil}
use Rattle.mcv_base.specs.Reply.{part_value}
use Rattle.mcv_text.specs.Answer.{hits_text}
use Rattle.mcv_text.proofs.Hits.{hits_none}
use Rattle.mcv_text.proofs.answer.push_hits.Goals as goal

pub returns : goal.returns
returns c =
    let left = map (λ key. key.items) c.loop-part.left.now in
    let none : map part_value (drop c.loop-part.part-index c.args.parts.now) ≡ [] = ap (map part_value) (drop_all c.loop-part.part-index c.args.parts.now (omega arith)) in
    sym (append-nil c.loop-part.text.items)
    ∙ sym (ap (λ t. c.loop-part.text.items ++ t) (ap (hits_text c.args.op left) none ∙ hits_none c.args.op left))
    ∙ c.loop-part.invariant
