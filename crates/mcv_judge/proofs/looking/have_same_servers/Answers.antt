use Rattle.std.proofs.Common.{ap, ◌∙◌}
use Rattle.std.specs.Ordering.{is_eq}
use Rattle.mcv_judge.proofs.Servers.{by_numbers}
use Rattle.mcv_judge.proofs.looking.have_same_servers.Goals as goal

pub returns : goal.returns
returns c = c.is_eq.ensures ∙ ap is_eq (c.cmp.ensures ∙ by_numbers c.args.leg.now.servers.now c.args.other.now.servers.now)
