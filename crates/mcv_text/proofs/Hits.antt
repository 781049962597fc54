-- The text of an answer, once the replies are used up.
use Rattle.std.proofs.Common.{◌≡◌, List, ℕ, [], ◌∷◌, refl}
use Rattle.mcv_base.specs.declared.operation.Op.{Op}
use Rattle.mcv_text.specs.Answer.{hits_text}

pub hits_none : (op : Op) (keys : List (List ℕ)) → hits_text op keys [] ≡ []
hits_none op [] = refl
hits_none op (key ∷ keys) = refl
