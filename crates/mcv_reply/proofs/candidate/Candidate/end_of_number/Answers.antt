use Rattle.std.proofs.Common.{◌≡◌, ◌+◌, Bool, ap, arith, ◌∙◌}
use Rattle.mcv_reply.specs.declared.candidate.Number.{Number}
use Rattle.mcv_reply.specs.declared.candidate.Number.TheVariants.{Flags, Size}
use Rattle.mcv_reply.specs.declared.candidate.LinePart.TheVariants.{InNumber}
use Rattle.mcv_reply.specs.Line.{cas_forms}
use Rattle.mcv_reply.specs.Candidate.{fewest}
use Rattle.mcv_reply.proofs.Ending.{ends_not}
use Rattle.mcv_reply.proofs.candidate.Candidate.end_of_number.Goals as goal

pub returns-in-Flags : goal.returns-in-Flags
returns-in-Flags c = λ key. ends_not c.args.cas key c.args.self (InNumber Flags c.args.value) (c.requires.part ∙ ap (λ (n : Number). InNumber n c.args.value) c.in-Flags.is) (omega arith)

pub returns-then-cas : goal.returns-then-cas
returns-then-cas c = λ key.
    let some : fewest (cas_forms c.args.cas 0) 1 ≡ 1 + (1 + 0) = ap (λ (h : Bool). fewest (cas_forms h 0) 1) c.if-cas.true in
    ends_not c.args.cas key c.args.self (InNumber Size c.args.value) (c.requires.part ∙ ap (λ (n : Number). InNumber n c.args.value) c.in-Size.is) (omega (arith, some))
