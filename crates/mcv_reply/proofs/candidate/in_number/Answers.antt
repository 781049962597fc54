use Rattle.std.proofs.Common.{◌≡◌, ◌+◌, ◌-◌, ◌*◌, List, ℕ, refl, arith, sym, subst}
use Rattle.mcv_reply.specs.declared.candidate.Head.{Head}
use Rattle.mcv_reply.specs.declared.candidate.LinePart.TheVariants.{InNumber}
use Rattle.mcv_reply.specs.Line.{Writes}
use Rattle.mcv_reply.specs.Candidate.{behind_number, limit_of, number_in, Digits, Follows, SoFar}
use Rattle.mcv_reply.proofs.Writing.{digit_never, digit_on, digit_back, digits_end, digits_none, digits_least}
use Rattle.mcv_reply.proofs.CandidateSteps.{moves_same}
use Rattle.mcv_reply.proofs.candidate.in_number.Goals as goal

pub returns-in_err-value-in-Some : goal.returns-in_err-value-in-Some
returns-in_err-value-in-Some c = rw c.from_residual.ensures (λ head more f.
    let n = c.args.number in
    let d = c.in-Some.ensures in
    let Then = Writes (behind_number n c.args.cas head) 1 in
    let on = digit_on (limit_of n) c.args.value (number_in n head) c.args.byte Then more (λ m rest. digit_never (behind_number n c.args.cas head) c.args.byte m d.0 d.1 rest) f.1 in
    let least = digits_least (limit_of n) (10 * c.args.value + (c.args.byte - 48)) (number_in n head) Then more on in
    omega (arith, c.in_err-value-in-Some.ensures, c.limit.ensures, d.2, least))

pub returns-in_ok-value-in-Some : goal.returns-in_ok-value-in-Some
returns-in_ok-value-in-Some c =
    let n = c.args.number in
    let d = c.in-Some.ensures in
    let is : c.in_ok-value-in-Some.value ≡ 10 * c.args.value + (c.args.byte - 48) = omega (arith, c.in_ok-value-in-Some.ensures.0, d.2) in
    record {
      on = λ head more f.
          let Then = Writes (behind_number n c.args.cas head) 1 in (
            f.0,
            subst (λ (v : ℕ). Digits (limit_of n) v (number_in n head) Then more) (sym is)
                (digit_on (limit_of n) c.args.value (number_in n head) c.args.byte Then more (λ m rest. digit_never (behind_number n c.args.cas head) c.args.byte m d.0 d.1 rest) f.1),
          );
      back = λ head more f.
          let Then = Writes (behind_number n c.args.cas head) 1 in
          (f.0, digit_back (limit_of n) c.args.value (number_in n head) c.args.byte Then more d.0 d.1 (subst (λ (v : ℕ). Digits (limit_of n) v (number_in n head) Then more) is f.1));
      first = refl;
      spare = refl;
      valid = (c.requires.has, omega (arith, c.in_ok-value-in-Some.ensures.1, c.limit.ensures));
      needs = refl;
    }

pub returns-in-None : goal.returns-in-None
returns-in-None c =
    let n = c.args.number in
    let cand = c.args.candidate in
    moves_same c.args.cas c.args.key.now cand c.args.byte
    (λ (head : Head) (more : List ℕ). Follows cand.first c.args.cas c.args.key.now cand.head (InNumber n c.args.value) head more)
    (λ (head : Head) (more : List ℕ). SoFar n cand.head head × (c.args.value ≡ number_in n head) × Writes (behind_number n c.args.cas head) 1 more)
    _ _ c.behind_number.result
    (λ head more f. (let e = digits_end (limit_of n) c.args.value (number_in n head) c.args.byte (Writes (behind_number n c.args.cas head) 1) more c.in-None.ensures f.1 in (f.0, e.0, e.1)))
    (λ head more f. (f.0, digits_none (limit_of n) c.args.value (number_in n head) c.args.byte (Writes (behind_number n c.args.cas head) 1) more c.requires.within f.1 f.2))
    refl
    c.behind_number.ensures
