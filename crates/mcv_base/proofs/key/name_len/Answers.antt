use Rattle.mcv_base.proofs.Prefixes.{named_at, unnamed_without}
use Rattle.mcv_base.proofs.key.name_len.Goals as goal

pub returns-in-None-clause-named : goal.returns-in-None-clause-named
returns-in-None-clause-named c = unnamed_without c.args.bytes.now c.in-None.ensures

pub returns-in-Some-clause-named : goal.returns-in-Some-clause-named
returns-in-Some-clause-named c = named_at c.args.bytes.now c.in-Some.place c.in-Some.place-test.1 c.in-Some.ensures
