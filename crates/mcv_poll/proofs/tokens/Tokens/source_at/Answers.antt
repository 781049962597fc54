use Rattle.std.proofs.Common.{◌∙◌}
use Rattle.mcv_poll.proofs.Lines.{none_has, one_has}
use Rattle.mcv_poll.proofs.tokens.Tokens.source_at.Goals as goal

pub returns-in_err-hub-clause-alone : goal.returns-in_err-hub-clause-alone
returns-in_err-hub-clause-alone c = λ s is. c.from_residual.ensures ∙ none_has c.args.self c.args.number c.server_at.result c.server_at.ensures.alone c.in_err-hub.was c.if-number-self.false s is

pub returns-clause-alone : goal.returns-clause-alone
returns-clause-alone c = λ s is. one_has c.args.self c.args.number c.server_at.result c.server_at.ensures.alone c.in_ok-hub.field-0 c.in_ok-hub.was c.if-number-self.false s is
