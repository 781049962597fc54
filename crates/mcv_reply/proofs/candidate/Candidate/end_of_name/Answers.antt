use Rattle.std.proofs.Common.{ap, arith, ◌∙◌}
use Rattle.mcv_reply.specs.declared.candidate.Name.{Name}
use Rattle.mcv_reply.specs.declared.candidate.Name.TheVariants.{Key}
use Rattle.mcv_reply.specs.declared.candidate.LinePart.TheVariants.{InName}
use Rattle.mcv_reply.proofs.Ending.{ends_not}
use Rattle.mcv_reply.proofs.candidate.Candidate.end_of_name.Goals as goal

pub returns-in-Key : goal.returns-in-Key
returns-in-Key c = λ has key. ends_not has key c.args.self (InName Key c.args.at) (c.requires ∙ ap (λ (n : Name). InName n c.args.at) c.in-Key.is) (omega arith)
