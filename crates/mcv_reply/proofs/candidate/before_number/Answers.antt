use Rattle.std.proofs.Common.{ℕ, refl, arith, sym, subst}
use Rattle.mcv_reply.specs.Line.{Writes, number}
use Rattle.mcv_reply.specs.Candidate.{behind_number, limit_of, number_in, Digits}
use Rattle.mcv_reply.proofs.Writing.{skip_on, skip_back, number_on, number_back, number_starts, digit_limit}
use Rattle.mcv_reply.proofs.candidate.before_number.Goals as goal

pub returns-then-byte-eq32 : goal.returns-then-byte-eq32
returns-then-byte-eq32 c = record {
  on = λ head more f. (f.0, skip_on (number (limit_of c.args.number) (number_in c.args.number head)) (Writes (behind_number c.args.number c.args.cas head) 1) c.args.byte more (number_starts _ _) c.if-byte-eq32.true f.1);
  back = λ head more f. (f.0, skip_back (number (limit_of c.args.number) (number_in c.args.number head)) (Writes (behind_number c.args.number c.args.cas head) 1) c.args.byte more c.if-byte-eq32.true f.1);
  first = refl;
  spare = refl;
  valid = c.requires;
  needs = refl;
}

pub returns-in_err-value : goal.returns-in_err-value
returns-in_err-value c = rw c.from_residual.ensures (λ head more f.
    let on = number_on (limit_of c.args.number) (number_in c.args.number head) c.args.byte (Writes (behind_number c.args.number c.args.cas head) 1) more c.if-byte-eq32.false f.1 in
    c.in_err-value.ensures on.0 on.1)

pub returns : goal.returns
returns c =
    let d = c.in_ok-value.ensures in
    record {
      on = λ head more f.
          let Then = Writes (behind_number c.args.number c.args.cas head) 1 in
          let on = number_on (limit_of c.args.number) (number_in c.args.number head) c.args.byte Then more c.if-byte-eq32.false f.1 in
          (f.0, subst (λ (v : ℕ). Digits (limit_of c.args.number) v (number_in c.args.number head) Then more) (sym d.2) on.2);
      back = λ head more f.
          let Then = Writes (behind_number c.args.number c.args.cas head) 1 in
          (f.0, number_back (limit_of c.args.number) (number_in c.args.number head) c.args.byte Then more d.0 d.1 (subst (λ (v : ℕ). Digits (limit_of c.args.number) v (number_in c.args.number head) Then more) d.2 f.1));
      first = refl;
      spare = refl;
      valid = (c.requires, digit_limit c.args.number c.in_ok-value.value (omega (arith, d.1, d.2)));
      needs = omega arith;
    }
