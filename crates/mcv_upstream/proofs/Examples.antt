-- Legs 4 and 7, a get of a and a delete of b, of whose texts five bytes are written.
use Rattle.std.proofs.Common.{ℕ, [], ◌∷◌, refl, Ok}
use Rattle.std.specs.Prelude.{codes}
use Rattle.mcv_base.specs.declared.operation.Op.TheVariants.{Get, Delete}
use Rattle.mcv_base.specs.declared.request.LegId.{LegId}
use Rattle.mcv_reply.specs.Replies.{Leg, Open}
use Rattle.mcv_upstream.specs.Life.{Carried}
use Rattle.mcv_upstream.specs.Upstream.{SendsText, unused}

abbrev number : ℕ → LegId
number n = record { 0 = n }

abbrev a_get : Leg
a_get = record { op = Get; key = codes "a" }

abbrev b_delete : Leg
b_delete = record { op = Delete; key = codes "b" }

-- the first is sent where nothing was
pub first_sent : SendsText unused (number 4) a_get (codes "get a\r\n") (Ok tt) (record { legs = record { legs = number 4 ∷ []; connection = Open (a_get ∷ []) [] }; output = codes "get a\r\n" })
first_sent = record { sends = record { sends = refl; legs = refl }; output = refl }

-- both were sent, and five bytes are written
pub five_written : Carried (record { sent = number 4 ∷ number 7 ∷ []; texts = codes "get a\r\n" ∷ codes "delete b\r\n" ∷ []; landed = []; lost = []; written = codes "get a" }) (record { legs = record { legs = number 4 ∷ number 7 ∷ []; connection = Open (a_get ∷ b_delete ∷ []) [] }; output = codes "\r\ndelete b\r\n" })
five_written = record { lived = record { all = refl; none_lost = λ now. refl }; one_each = refl; writes = λ now. refl }
