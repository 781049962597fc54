use Rattle.std.proofs.Common.{◌∙◌, ap, sym}
use Rattle.mcv_lines.specs.Lost.{lost_leg}
use Rattle.mcv_lines.proofs.sent.lost_leg.Goals as goal

pub returns-then-is_oldest : goal.returns-then-is_oldest
returns-then-is_oldest c = c.lost.ensures ∙ sym (ap (λ b. lost_leg c.args.server b c.args.leg) c.if-is_oldest.true)

pub returns-else-is_oldest : goal.returns-else-is_oldest
returns-else-is_oldest c = c.lost_too.ensures ∙ sym (ap (λ b. lost_leg c.args.server b c.args.leg) c.if-is_oldest.false)
