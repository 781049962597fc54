use Rattle.std.proofs.Common.{◌≡◌, ◌+◌, Bool, Some, None, List, [], ◌∷◌, ◌++◌, length, get_or, sym, subst, ap, arith, ◌∙◌}
use Rattle.std.proofs.lemmas.List.{get_or_default, length_push}
use Rattle.mcv_reply.specs.declared.candidate.Candidate.{Candidate}
use Rattle.mcv_reply.specs.Candidate.{IsKept, Reads}
use Rattle.mcv_reply.proofs.Lines.{any_candidate, IsLeft, left_none, left_some, left_out, left_kept}
use Rattle.mcv_reply.proofs.line.narrowed.Goals as goal
use Rattle.mcv_reply.proofs.line.narrowed.Goals.{in-Some, in_default}

pub loop-candidate-init : goal.loop-candidate-init
loop-candidate-init c = record {
  few = omega (arith, ap length c.new-left.ensures);
  so_far = λ line kept. subst (λ (t : List Candidate). IsLeft c.args.row c.args.key.now line c.args.bytes.now c.as_slice-candidate-items.result.now 0 t) (sym c.new-left.ensures) (left_none c.args.row c.args.key.now line c.args.bytes.now c.as_slice-candidate-items.result.now kept);
}

pub loop-candidate-preserved : goal.loop-candidate-preserved
loop-candidate-preserved c =
    let items = c.as_slice-candidate-items.result.now in
    let i = c.loop-candidate.candidate-index in
    let left = c.loop-candidate.left.items in
    let at = get_or items i any_candidate in
    elim c.match-read.branch [
      | in-Some w ↦
          let is : c.match-read.left.items ≡ left ++ w.in-Some.next ∷ [] = ap (λ t. t.items) w.left-is ∙ w.push.ensures.items in
          record {
            few = omega (arith, ap length is, length_push left w.in-Some.next, c.loop-candidate.invariant.few);
            so_far = λ line kept. subst (λ (t : List Candidate). IsLeft c.args.row c.args.key.now line c.args.bytes.now items (i + 1) t) (sym is)
                (left_some c.args.row c.args.key.now line c.args.bytes.now items kept i left (c.loop-candidate.invariant.so_far line kept) at c.loop-candidate-test.true (λ d. get_or_default items i any_candidate d c.loop-candidate-test.true) w.in-Some.next
                (subst (λ (h : Bool). Reads h c.args.key.now at c.args.bytes.now (Some w.in-Some.next)) c.has_cas-cas.ensures w.in-Some.ensures));
          }
      | in_default w ↦
          let is : c.match-read.left.items ≡ left = ap (λ t. t.items) w.left-is in
          record {
            few = omega (arith, ap length is, c.loop-candidate.invariant.few);
            so_far = λ line kept. subst (λ (t : List Candidate). IsLeft c.args.row c.args.key.now line c.args.bytes.now items (i + 1) t) (sym is)
                (left_out c.args.row c.args.key.now line c.args.bytes.now items kept i left (c.loop-candidate.invariant.so_far line kept) at c.loop-candidate-test.true (λ d. get_or_default items i any_candidate d c.loop-candidate-test.true)
                (subst (λ (h : Bool). Reads h c.args.key.now at c.args.bytes.now None) c.has_cas-cas.ensures w.in_default.ensures));
          }
    ]

pub push-requires : goal.push-requires
push-requires c = (omega arith, omega (arith, c.loop-candidate.invariant.few, c.loop-candidate-test.true, c.as_slice-candidate-items.ensures.fits))

pub returns : goal.returns
returns c = λ line kept.
    let items = c.as_slice-candidate-items.result.now in
    let at_items : IsKept c.args.row c.args.key.now line items = subst (λ (t : List Candidate). IsKept c.args.row c.args.key.now line t) (sym c.as_slice-candidate-items.ensures.value) kept in
    left_kept c.args.row c.args.key.now line c.args.bytes.now items at_items c.loop-candidate.candidate-index c.loop-candidate.left.items (c.loop-candidate.invariant.so_far line at_items) c.loop-candidate-test.false c.requires.no_end
