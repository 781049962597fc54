use Rattle.mcv_reply.proofs.SpaceBetweenWords.{before_size, before_cas}
use Rattle.mcv_reply.proofs.candidate.behind_number.Goals as goal

pub returns-in-Flags : goal.returns-in-Flags
returns-in-Flags c = before_size c.args.cas c.args.key.now c.args.candidate c.args.byte c.args.number c.args.value c.separated.result c.in-Flags.is c.requires.has c.separated.ensures

pub returns-then-cas : goal.returns-then-cas
returns-then-cas c = before_cas c.args.cas c.args.key.now c.args.candidate c.args.byte c.args.number c.args.value c.separated-then-cas.result c.in-Size.is c.if-cas.true c.requires.has c.separated-then-cas.ensures
