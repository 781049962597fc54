-- What is at a number, and which number is the least.
use Rattle.std.specs.Prelude.{◌≡◌, ℕ, Bool, true, false, Option, Some, None, nat_eq, nat_le, cond}
use Rattle.mcv_base.specs.declared.request.LegId.{LegId}

abbrev pub leg_number : LegId → ℕ
leg_number leg = leg.0

-- the map f, but for w at n
abbrev pub put : {X : Type 0} → (ℕ → Option X) → ℕ → Option X → ℕ → Option X
put f n w m = cond (nat_eq n m) w (f m)

-- this number it is
abbrev pub names : Option ℕ → ℕ → Bool
names None n = false
names (Some m) n = nat_eq m n

-- there is a number, and it is at most n
abbrev pub is_up_to : Option ℕ → ℕ → Bool
is_up_to None n = false
is_up_to (Some m) n = nat_le m n

-- b is the least number for which the test is true, or None where there is none
pub record IsLeast (w : ℕ → Bool) (b : Option ℕ) : Type 0 where
  pub there : (m : ℕ) → b ≡ Some m → w m ≡ true
  pub least : (n : ℕ) → w n ≡ true → is_up_to b n ≡ true
