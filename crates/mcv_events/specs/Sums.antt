-- Sums over what has a number (own).
use Rattle.std.specs.Prelude.{ℕ, zero, suc, ◌+◌, Option}

-- of what has a number below n
abbrev pub sum_below : {X : Type 0} → (Option X → ℕ) → (ℕ → Option X) → ℕ → ℕ
sum_below weigh f zero = 0
sum_below weigh f (suc n) = weigh (f n) + sum_below weigh f n
