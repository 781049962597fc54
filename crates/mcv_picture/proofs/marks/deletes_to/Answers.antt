use Rattle.std.proofs.Common.{◌∙◌, ◌++◌, List, ℕ, ap, map, subst}
use Rattle.mcv_blocks.specs.Blocks.{AreLeavesAt, IsAcknowledgedAt, positions_of}
use Rattle.mcv_blocks.specs.Sets.{SetsValue}
use Rattle.mcv_judge.specs.PairsInMemory.{legs_of}
use Rattle.mcv_witness.specs.Finding.{outcomes_of}
use Rattle.mcv_witness.specs.declared.finding.LegOutcome.{LegOutcome}
use Rattle.mcv_picture.proofs.marks.deletes_to.Goals as goal

pub returns : goal.returns
returns c =
    let legs = legs_of c.in_ok-legs.legs.items in
    let places : List LegOutcome → List (List ℕ) = λ outcomes. map (λ e. e.0) (outcomes_of outcomes) in
    let answered = places c.args.finding.now.deletes.items in
    let told = c.in_ok-push_answered.ensures ∙ (ap (λ (ls : List LegOutcome). c.new-positions.result.items ++ places ls) c.as_slice.ensures.value ∙ ap (λ (ps : List (List ℕ)). ps ++ answered) c.new-positions.ensures.items) in record {
      legs = legs;
      acknowledged = subst (λ (s : SetsValue). AreLeavesAt s.tree (IsAcknowledgedAt s.tree s.rest s.since) legs) c.in_ok-sets.ensures c.in_ok-legs.ensures;
      are =
          c.in_ok-push_legs_of.ensures
          ∙ (ap (λ (ps : List (List ℕ)). ps ++ positions_of (legs_of c.as_slice-2.result.now)) told ∙ ap (λ xs. answered ++ positions_of (legs_of xs)) c.as_slice-2.ensures.value);
    }
