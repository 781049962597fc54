use Rattle.std.proofs.Common.{rules}
use Rattle.mcv_draw.proofs.LegsInOrder.{sorted_by_steps}
use Rattle.mcv_draw.proofs.legs.Legs.new.Goals as goal

pub invariant_of-result : goal.invariant_of-result
invariant_of-result c = record { sorted = sorted_by_steps _ c.sort_unstable_by.ensures.sorted (λ a r f k. search rules) }
