use Rattle.std.proofs.Common.{sym}
use Rattle.mcv_reply.proofs.SpaceBetweenWords.{before_key, before_flags}
use Rattle.mcv_reply.proofs.candidate.behind_name.Goals as goal

pub returns-in-Value : goal.returns-in-Value
returns-in-Value c = before_key c.args.cas c.args.key.now c.args.candidate c.args.byte c.args.name c.separated.result c.in-First.is (sym c.in-Value.ensures) c.separated.ensures

pub returns-in-Key : goal.returns-in-Key
returns-in-Key c = before_flags c.args.cas c.args.key.now c.args.candidate c.args.byte c.args.name c.separated-in-Key.result c.in-Key.is c.requires c.separated-in-Key.ensures
