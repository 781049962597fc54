-- The definitions at small values.
use Rattle.std.proofs.Common.{◌≡◌, ℕ, refl}
use Rattle.mcv_core.specs.Flights.{one_less, one_more}

-- two legs are in flight to server 1
abbrev two : ℕ → ℕ
two = one_more (one_more (λ s. 0) 1) 1

two_fly : two 1 ≡ 2
two_fly = refl

none_flies_to_another : two 0 ≡ 0
none_flies_to_another = refl

one_lands : one_less two 1 1 ≡ 1
one_lands = refl
