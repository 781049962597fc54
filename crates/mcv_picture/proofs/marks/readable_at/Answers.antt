use Rattle.std.proofs.Common.{◌∙◌, ◌++◌, List, ℕ, ap, subst}
use Rattle.mcv_blocks.specs.Blocks.{AreLeavesAt, positions_of}
use Rattle.mcv_blocks.specs.Sets.{SetsValue}
use Rattle.mcv_judge.specs.PairsInMemory.{legs_of}
use Rattle.mcv_symbolic.specs.JustifiedRoutes.{IsReadableAt}
use Rattle.mcv_picture.proofs.marks.readable_at.Goals as goal

pub returns : goal.returns
returns c =
    let legs = legs_of c.in_ok-legs.legs.items in record {
      legs = legs;
      readable = subst (λ (s : SetsValue). AreLeavesAt s.tree (IsReadableAt s.tree s.rest s.since) legs) c.in_ok-sets.ensures c.in_ok-legs.ensures;
      are =
          c.in_ok-push_legs_of.ensures
          ∙ (ap (λ (ps : List (List ℕ)). ps ++ positions_of (legs_of c.as_slice.result.now)) c.new-positions.ensures.items ∙ ap (λ xs. positions_of (legs_of xs)) c.as_slice.ensures.value);
    }
