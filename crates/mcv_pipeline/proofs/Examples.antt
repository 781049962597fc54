-- Legs 4 and 7, a get of a and a delete of b.
use Rattle.std.proofs.Common.{ℕ, [], ◌∷◌, refl, Some, Ok}
use Rattle.mcv_base.specs.declared.operation.Op.TheVariants.{Get, Delete}
use Rattle.mcv_base.specs.declared.request.LegId.{LegId}
use Rattle.mcv_pipeline.specs.Life.{Lived}
use Rattle.mcv_pipeline.specs.Pipeline.{Loses, SendsLeg}
use Rattle.mcv_reply.specs.Replies.{Leg, Open, Closed}

abbrev number : ℕ → LegId
number n = record { 0 = n }

abbrev a_get : Leg
a_get = record { op = Get; key = 97 ∷ [] }

abbrev b_delete : Leg
b_delete = record { op = Delete; key = 98 ∷ [] }

-- the second is sent behind the first
pub second_sent : SendsLeg (record { legs = number 4 ∷ []; connection = Open (a_get ∷ []) [] }) (number 7) b_delete (Ok tt) (record { legs = number 4 ∷ number 7 ∷ []; connection = Open (a_get ∷ b_delete ∷ []) [] })
second_sent = record { sends = refl; legs = refl }

-- both are lost with their connection, the oldest first
pub first_lost : Loses (record { legs = number 4 ∷ number 7 ∷ []; connection = Closed }) (Some (number 4)) (record { legs = number 7 ∷ []; connection = Closed })
first_lost = record { loses = refl; connection = refl }

-- 4 has landed and 7 is told as lost; 9 is still to be told
pub third_left : Lived (record { sent = number 4 ∷ number 7 ∷ number 9 ∷ []; landed = number 4 ∷ []; lost = number 7 ∷ [] }) (record { legs = number 9 ∷ []; connection = Closed })
third_left = record { all = refl; none_lost = λ now. absurd (cc) }
