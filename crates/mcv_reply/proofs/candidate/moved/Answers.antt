use Rattle.std.proofs.Common.{sym, subst}
use Rattle.mcv_reply.specs.declared.candidate.LinePart.{LinePart}
use Rattle.mcv_reply.specs.Candidate.{AdvancesAt}
use Rattle.mcv_reply.proofs.candidate.moved.Goals as goal

pub returns-in-BeforeNumber : goal.returns-in-BeforeNumber
returns-in-BeforeNumber c = subst (λ (p : LinePart). AdvancesAt c.args.cas c.args.key.now c.args.candidate p c.args.byte c.before_number.result) (sym c.in-BeforeNumber.is) c.before_number.ensures

pub returns-in-InNumber : goal.returns-in-InNumber
returns-in-InNumber c = subst (λ (p : LinePart). AdvancesAt c.args.cas c.args.key.now c.args.candidate p c.args.byte c.in_number.result) (sym c.in-InNumber.is) c.in_number.ensures
