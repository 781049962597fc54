-- Numbers that hang from lesser ones, by their links.
use Rattle.std.specs.Prelude.{◌≡◌, ◌<◌, ◌&&◌, ◌||◌, ℕ, Bool, true, false, Option, Some, None, nat_lt, cond, option_map, is_some}
use Rattle.mcv_queues.specs.declared.rows.Link.{Link}
use Rattle.mcv_queues.specs.Numbers.{put, names}

abbrev pub left_of : Option Link → Option ℕ
left_of None = None
left_of (Some l) = l.left

abbrev pub right_of : Option Link → Option ℕ
right_of None = None
right_of (Some l) = l.right

abbrev pub up_of : Option Link → Option ℕ
up_of None = None
up_of (Some l) = l.up

-- a number hangs from p
abbrev pub is_below : (ℕ → Bool) → (ℕ → Option Link) → ℕ → Option ℕ → Bool
is_below w f n None = false
is_below w f n (Some p) = w p && (nat_lt p n && (names (left_of (f p)) n || names (right_of (f p)) n))

-- the numbers with w hang from one another, each below a lesser one, but for a, b and c, which hang from none
pub record IsForest (w : ℕ → Bool) (f : ℕ → Option Link) (a b c : Option ℕ) : Type 0 where
  pub there : (n : ℕ) → w n ≡ true → is_some (f n) ≡ true
  pub first : (n : ℕ) → a ≡ Some n → (w n ≡ true) × (up_of (f n) ≡ None)
  pub second : (n : ℕ) → b ≡ Some n → (w n ≡ true) × (up_of (f n) ≡ None)
  pub third : (n : ℕ) → c ≡ Some n → (w n ≡ true) × (up_of (f n) ≡ None)
  pub member : (n : ℕ) → w n ≡ true → (names a n || (names b n || (names c n || is_below w f n (up_of (f n))))) ≡ true
  pub left : (p n : ℕ) → w p ≡ true → left_of (f p) ≡ Some n → (w n ≡ true) × (p < n) × (up_of (f n) ≡ Some p)
  pub right : (p n : ℕ) → w p ≡ true → right_of (f p) ≡ Some n → (w n ≡ true) × (p < n) × (up_of (f n) ≡ Some p)
  pub apart : (p n : ℕ) → w p ≡ true → left_of (f p) ≡ Some n → right_of (f p) ≡ Some n → ⊥

-- ---- changes of links

abbrev pub changed : (ℕ → Option Link) → ℕ → (Link → Link) → ℕ → Option Link
changed f n g = put f n (option_map g (f n))

-- n hangs from something else
abbrev pub raised : (ℕ → Option Link) → ℕ → Option ℕ → ℕ → Option Link
raised f n up = changed f n (λ l. record { left = l.left; right = l.right; up = up })

abbrev pub raised_some : (ℕ → Option Link) → Option ℕ → Option ℕ → ℕ → Option Link
raised_some f None up = f
raised_some f (Some n) up = raised f n up

-- what hung at the left hangs at the right, and something else at the left
abbrev pub turned : (ℕ → Option Link) → ℕ → Option ℕ → ℕ → Option Link
turned f n left = changed f n (λ l. record { left = left; right = l.left; up = l.up })

abbrev pub unless : Option ℕ → ℕ → Option ℕ
unless o x = cond (names o x) None o

-- x doesn't hang from n
abbrev pub cut : (ℕ → Option Link) → Option ℕ → ℕ → ℕ → Option Link
cut f None x = f
cut f (Some n) x = changed f n (λ l. record { left = unless l.left x; right = unless l.right x; up = l.up })

abbrev pub free_link : Link
free_link = record { left = None; right = None; up = None }

abbrev pub freed : (ℕ → Option Link) → ℕ → ℕ → Option Link
freed f n = changed f n (λ l. record { left = None; right = None; up = None })
