use Rattle.std.proofs.Common.{Bool, Some, None, List, get_or, sym, subst}
use Rattle.std.proofs.lemmas.List.{get_or_default}
use Rattle.mcv_reply.specs.declared.candidate.Candidate.{Candidate}
use Rattle.mcv_reply.specs.Word.{has_cas}
use Rattle.mcv_reply.specs.Candidate.{Ends, IsKept}
use Rattle.mcv_reply.proofs.Lines.{any_candidate, none_ends_more, says_none, says_some}
use Rattle.mcv_reply.proofs.line.said.Goals as goal

pub loop-candidate-preserved : goal.loop-candidate-preserved
loop-candidate-preserved c =
    let items = c.as_slice-candidate-items.result.now in
    let i = c.loop-candidate.candidate-index in
    none_ends_more (has_cas c.args.row) items i (get_or items i any_candidate) (λ d. get_or_default items i any_candidate d c.loop-candidate-test.true) c.loop-candidate.invariant
    (λ key clean. subst (λ (h : Bool). Ends h key (get_or items i any_candidate) None) c.has_cas-cas.ensures (c.in_default.ensures key clean))

pub returns-in-Some : goal.returns-in-Some
returns-in-Some c = λ key line clean kept.
    let items = c.as_slice-candidate-items.result.now in
    let i = c.loop-candidate.candidate-index in
    says_some c.args.row key line items (subst (λ (t : List Candidate). IsKept c.args.row key line t) (sym c.as_slice-candidate-items.ensures.value) kept) i (get_or items i any_candidate) c.in-Some.head c.loop-candidate-test.true (λ d. get_or_default items i any_candidate d c.loop-candidate-test.true)
    (subst (λ (h : Bool). Ends h key (get_or items i any_candidate) (Some c.in-Some.head)) c.has_cas-cas.ensures (c.in-Some.ensures key clean))

pub returns : goal.returns
returns c = λ key line clean kept.
    says_none c.args.row key line c.as_slice-candidate-items.result.now (subst (λ (t : List Candidate). IsKept c.args.row key line t) (sym c.as_slice-candidate-items.ensures.value) kept) c.loop-candidate.candidate-index c.loop-candidate-test.false clean c.loop-candidate.invariant
