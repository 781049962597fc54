-- What one write of a line did (own).
use Rattle.std.specs.Prelude.{◌≡◌, ◌<◌, ℕ, List, length, take, drop, Option}
use Rattle.std.specs.Io.KnownBytes.{Appends}
use Rattle.mcv_lines.specs.declared.took.Wrote.{Wrote}
use Rattle.mcv_lines.specs.declared.took.Wrote.TheVariants as wrote

-- n of so many bytes were written: all, a part of them, or none
abbrev pub IsCountOf : Wrote → (n : ℕ) → (all : ℕ) → Type 0
IsCountOf wrote.All n all = n ≡ all
IsCountOf wrote.Part n all = (0 < n) × (n < all)
IsCountOf wrote.NotNow n all = n ≡ 0
IsCountOf wrote.Over n all = n ≡ 0

-- a front of what was to be written was, and the rest is to be
pub record WritesFront (output : List ℕ) (held : Option (List ℕ)) (result : Wrote) (left : List ℕ) (holds : Option (List ℕ)) : Type 0 where
  pub count : ℕ
  pub is_count : IsCountOf result count (length output)
  pub rest : left ≡ drop count output
  pub given : Appends held holds (take count output)
