use Rattle.std.proofs.Common.{◌≡◌, ◌<◌, ◌≤◌, ◌+◌, ◌∙◌, ℕ, drop, get_or, length, subst, arith}
use Rattle.std.proofs.lemmas.Bool.{eqb-true}
use Rattle.mcv_mend.specs.Kept.{IsKeptIn}
use Rattle.mcv_mend.proofs.Insertions.{all_kept, met, passed}
use Rattle.mcv_mend.proofs.kept.is_kept.Goals as goal
use Rattle.mcv_mend.proofs.kept.is_kept.Goals.{then-is_at, else-is_at}

pub loop-byte-init : goal.loop-byte-init
loop-byte-init c = record { low = omega arith; leads = λ h. h }

pub loop-byte-preserved : goal.loop-byte-preserved
loop-byte-preserved c =
    let input = c.args.input.now in
    let text = c.args.text.now in
    let kept = c.loop-byte.kept in
    let i = c.loop-byte.byte-index in
    let less : i < length text = c.loop-byte-test.true in
    let low : kept ≤ length input = c.loop-byte.invariant.low in
    elim c.if-is_at.branch [
      | then-is_at w ↦
          let lt : kept < length input = c.is_at.ensures.within w.if-is_at.true in
          let e : c.if-is_at.kept ≡ kept + 1 = w.kept-is in
          record {
            low = omega (arith, lt, e);
            leads = λ h. c.loop-byte.invariant.leads (met input text kept i lt less (c.is_at.ensures.same w.if-is_at.true) (subst (λ (k : ℕ). IsKeptIn (drop k input) (drop (i + 1) text)) e h));
          }
      | else-is_at w ↦
          let e : c.if-is_at.kept ≡ kept = w.kept-is in
          record {
            low = omega (arith, low, e);
            leads = λ h. c.loop-byte.invariant.leads (passed input text kept i less (subst (λ (k : ℕ). IsKeptIn (drop k input) (drop (i + 1) text)) e h));
          }
    ]

pub returns : goal.returns
returns c = λ is.
    let all : c.loop-byte.kept ≡ length c.args.input.now = eqb-true c.loop-byte.kept (length c.args.input.now) is in
    c.loop-byte.invariant.leads (all_kept c.args.input.now _ c.loop-byte.kept (omega (arith, all)))
