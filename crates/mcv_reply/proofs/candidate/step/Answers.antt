use Rattle.std.proofs.Common.{◌≡◌, ◌+◌, arith, subst, cond, Bool}
use Rattle.mcv_reply.specs.Candidate.{needed}
use Rattle.mcv_reply.proofs.Reading.{goes, too_long}
use Rattle.mcv_reply.proofs.candidate.step.Goals as goal

pub returns-then-not-free : goal.returns-then-not-free
returns-then-not-free c =
    let m = c.in_ok-next.field-0 in
    let moves = c.in_ok-next.ensures in
    let needs : needed c.args.candidate.first c.args.cas c.args.key.now c.args.candidate.part + 0 ≡ needed m.next.first c.args.cas c.args.key.now m.next.part + 1 = subst (λ (t : Bool). needed c.args.candidate.first c.args.cas c.args.key.now c.args.candidate.part + cond t 1 0 ≡ needed m.next.first c.args.cas c.args.key.now m.next.part + 1) c.if-not-free.true moves.needs in
    goes c.args.cas c.args.key.now c.args.candidate c.args.byte c.requires.no_end m m.next.spare 0 moves needs (omega (arith, moves.spare))

pub returns-in_err-spare : goal.returns-in_err-spare
returns-in_err-spare c = rw c.from_residual-in_err-spare.ensures (
    let m = c.in_ok-next.field-0 in
    let moves = c.in_ok-next.ensures in
    too_long c.args.cas c.args.key.now c.args.candidate c.args.byte c.requires.no_end m moves c.if-not-free.false (omega (arith, moves.spare, c.in_err-spare.ensures)))

pub returns : goal.returns
returns c =
    let m = c.in_ok-next.field-0 in
    let moves = c.in_ok-next.ensures in
    let needs : needed c.args.candidate.first c.args.cas c.args.key.now c.args.candidate.part + 1 ≡ needed m.next.first c.args.cas c.args.key.now m.next.part + 1 = subst (λ (t : Bool). needed c.args.candidate.first c.args.cas c.args.key.now c.args.candidate.part + cond t 1 0 ≡ needed m.next.first c.args.cas c.args.key.now m.next.part + 1) c.if-not-free.false moves.needs in
    goes c.args.cas c.args.key.now c.args.candidate c.args.byte c.requires.no_end m c.in_ok-spare.spare 1 moves needs (omega (arith, moves.spare, c.in_ok-spare.ensures))
