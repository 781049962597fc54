use Rattle.std.proofs.Common.{inl, inr, arith}
use Rattle.mcv_reply.specs.declared.candidate.LinePart.TheVariants.{BeforeNumber}
use Rattle.mcv_reply.proofs.Ending.{ends_not, not_before_name}
use Rattle.mcv_reply.proofs.candidate.Candidate.end.Goals as goal

pub returns-in-BeforeName : goal.returns-in-BeforeName
returns-in-BeforeName c = λ key clean.
    elim c.in-BeforeName.is [
      | inl is ↦ not_before_name c.args.cas key c.args.self is.0 is.1 clean
      | inr is ↦ ends_not c.args.cas key c.args.self (BeforeNumber is.0) is.1 (omega arith)
    ]

pub returns-in-InName : goal.returns-in-InName
returns-in-InName c = λ key clean. c.end_of_name.ensures c.args.cas key

pub returns-in-InNumber : goal.returns-in-InNumber
returns-in-InNumber c = λ key clean. c.end_of_number.ensures key
