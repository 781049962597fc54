use Rattle.std.proofs.Common.{ap, sym, arith, ◌∙◌, ◌++◌}
use Rattle.std.specs.List.{flat_map}
use Rattle.std.proofs.lemmas.List.{take_all}
use Rattle.std.proofs.lemmas.List.Folds.{flat_map-map}
use Rattle.mcv_base.specs.Reply.{ReplyValue, part_value}
use Rattle.mcv_text.specs.Answer.{line_end, reply_line}
use Rattle.mcv_text.proofs.answer.push_lines.Goals as goal

pub returns : goal.returns
returns c =
    c.loop-part.invariant
    ∙ ap (λ t. c.args.text.now.items ++ t)
    (ap (flat_map (λ part. reply_line (part_value part) ++ line_end)) (take_all c.loop-part.part-index c.args.parts.now (omega arith))
    ∙ sym (flat_map-map (λ (reply : ReplyValue). reply_line reply ++ line_end) part_value c.args.parts.now))
