use Rattle.std.proofs.Common.{List, ℕ, ap, sym, subst}
use Rattle.mcv_reply.specs.declared.word.Row.TheVariants.{Reply}
use Rattle.mcv_reply.specs.Line.{IsLine}
use Rattle.mcv_reply.proofs.Stages.{ended_wrong}
use Rattle.mcv_reply.proofs.progress.first_ended.Goals as goal

pub line_said-requires : goal.line_said-requires
line_said-requires c = subst (λ (t : List ℕ). IsLine (Reply c.args.op) c.args.key.now c.in-Some.said.first c.in-Some.said.head t) (sym (ap (λ t. t.items) c.replace-line.ensures.value)) (c.in-Some.ensures c.args.key.now c.args.progress.now.text.items c.requires.clean c.requires.kept)

pub returns-in-None : goal.returns-in-None
returns-in-None c = ended_wrong c.args.op c.args.key.now c.args.progress.now.text.items c.requires.kept.no_end (c.in-None.ensures c.args.key.now c.args.progress.now.text.items c.requires.clean c.requires.kept)
