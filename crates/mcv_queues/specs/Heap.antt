-- How two heaps become one, and how a number comes to a heap and leaves it.
use Rattle.std.specs.Prelude.{◌≡◌, ◌<◌, ◌≤◌, ◌&&◌, not, ℕ, Bool, true, false, Option, Some, None, nat_eq, nat_lt, cond}
use Rattle.mcv_queues.specs.declared.rows.Link.{Link}
use Rattle.mcv_queues.specs.declared.heap.Step.{Step}
use Rattle.mcv_queues.specs.Forest.{IsForest, raised, turned}

-- the lesser one of what hangs at the right and of what is to be hung up, and the other one
abbrev pub parted : ℕ → ℕ → Option ℕ → Option Step
parted upper lower None = None
parted upper lower (Some r) = cond (nat_lt upper r && nat_lt upper lower) (Some (cond (nat_lt r lower) (record { next = r; rest = lower }) (record { next = lower; rest = r }))) None

-- what hangs at the left of the upper number after a step
abbrev pub next_or : ℕ → Option Step → ℕ
next_or lower None = lower
next_or lower (Some s) = s.next

-- what hangs elsewhere after a step; where the lower number stays to be hung up, the next one hangs where it did
abbrev pub hung : (ℕ → Option Link) → ℕ → ℕ → Step → ℕ → Option Link
hung f upper lower s = cond (nat_eq s.rest lower) f (raised (raised f s.next (Some upper)) s.rest None)

abbrev pub stepped : (ℕ → Option Link) → ℕ → ℕ → Option Step → ℕ → Option Link
stepped f upper lower None = raised (turned f upper (Some lower)) lower (Some upper)
stepped f upper lower (Some s) = hung (turned f upper (Some s.next)) upper lower s

-- all numbers without w have the same links as before
abbrev pub SameBeyond : (ℕ → Bool) → (f g : ℕ → Option Link) → Type 0
SameBeyond w f g = (n : ℕ) → w n ≡ false → g n ≡ f n

abbrev pub AreApart : Option ℕ → Option ℕ → Type 0
AreApart a b = (n : ℕ) → a ≡ Some n → b ≡ Some n → ⊥

abbrev pub IsBefore : Option ℕ → Option ℕ → Type 0
IsBefore a b = (m n : ℕ) → a ≡ Some m → b ≡ Some n → m < n

-- a and b became one tree beside c
pub record IsJoined (w : ℕ → Bool) (f g : ℕ → Option Link) (a b result c : Option ℕ) : Type 0 where
  pub forest : IsForest w g result None c
  pub same : SameBeyond w f g
  pub one : (n : ℕ) → result ≡ Some n → (a ≡ Some n → ⊥) → b ≡ Some n

abbrev pub without : (ℕ → Bool) → ℕ → ℕ → Bool
without w x n = w n && not (nat_eq x n)

abbrev pub with_one : (ℕ → Bool) → ℕ → ℕ → Bool
with_one w x n = cond (nat_eq x n) true (w n)

-- a number left its tree
pub record IsOut (w : ℕ → Bool) (f g : ℕ → Option Link) (x : ℕ) (result : Option ℕ) : Type 0 where
  pub forest : IsForest (without w x) g result None None
  pub same : SameBeyond w f g

-- a number was put into a tree
pub record IsIn (w : ℕ → Bool) (f g : ℕ → Option Link) (x : ℕ) (result : Option ℕ) : Type 0 where
  pub forest : IsForest (with_one w x) g result None None
  pub same : (n : ℕ) → w n ≡ false → (x ≡ n → ⊥) → g n ≡ f n

-- how far two trees have become one
pub record IsMelding (w : ℕ → Bool) (f g : ℕ → Option Link) (top upper lower : ℕ) (c : Option ℕ) : Type 0 where
  pub forest : IsForest w g (Some top) (Some lower) c
  pub member : w upper ≡ true
  pub low : top ≤ upper
  pub above : upper < lower
  pub same : SameBeyond w f g
  pub before : (n : ℕ) → c ≡ Some n → n < upper
