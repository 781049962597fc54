-- An operation that shows a value is get, gets, incr or decr.
use Rattle.std.proofs.Common.{◌≡◌, ◌⊎◌, inl, inr, true}
use Rattle.std.proofs.lemmas.Bool.{false≢true}
use Rattle.mcv_base.specs.Operation.{shows_value}
use Rattle.mcv_base.specs.declared.operation.Op.{Op}
use Rattle.mcv_base.specs.declared.operation.Op.TheVariants.{Get, Gets, Set, Add, Replace, Append, Prepend, Cas, Delete, Touch, Incr, Decr}

-- what holds of the four holds of each such operation
pub each_of_four : (P : Op → Type 0) → P Get → P Gets → P Incr → P Decr → (op : Op) → shows_value op ≡ true → P op
each_of_four P get gets incr decr Get e = get
each_of_four P get gets incr decr Gets e = gets
each_of_four P get gets incr decr Set e = absurd (false≢true e)
each_of_four P get gets incr decr Add e = absurd (false≢true e)
each_of_four P get gets incr decr Replace e = absurd (false≢true e)
each_of_four P get gets incr decr Append e = absurd (false≢true e)
each_of_four P get gets incr decr Prepend e = absurd (false≢true e)
each_of_four P get gets incr decr Cas e = absurd (false≢true e)
each_of_four P get gets incr decr Delete e = absurd (false≢true e)
each_of_four P get gets incr decr Touch e = absurd (false≢true e)
each_of_four P get gets incr decr Incr e = incr
each_of_four P get gets incr decr Decr e = decr

-- what holds of such an operation holds of one of the four
pub one_of_four : (P : Op → Type 0) (op : Op) → shows_value op ≡ true → P op → (P Get ⊎ P Gets) ⊎ (P Incr ⊎ P Decr)
one_of_four P = each_of_four (λ op. P op → (P Get ⊎ P Gets) ⊎ (P Incr ⊎ P Decr)) (λ h. inl (inl h)) (λ h. inl (inr h)) (λ h. inr (inl h)) (λ h. inr (inr h))
