use Rattle.mcv_lines.proofs.WritesNothing.{writes_nothing}
use Rattle.mcv_lines.proofs.line.Line.write.Goals as goal

pub returns-then-self-clause-writes : goal.returns-then-self-clause-writes
returns-then-self-clause-writes g c = writes_nothing c.args.self.now.state
