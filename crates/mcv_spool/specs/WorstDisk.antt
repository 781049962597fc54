-- A disk that keeps the model and gives no more than it (own): it is the list of the changes that were asked of it, the last one first,
-- and a crash leaves whatever the model allows.
use Rattle.std.specs.Prelude.{◌≡◌, ◌⊎◌, ℕ, ◌≤◌, List, [], ◌∷◌, length, take}
use Rattle.mcv_spool.specs.Disk.{Changes, Cut, IsQuiet, Only, Torn, written}

pub data Change : Type 0 where
  write : ℕ → List ℕ → Change
  cut : ℕ → Change
  sync : Change

-- what a read gives
abbrev pub read_of : List Change → List ℕ
read_of [] = []
read_of (write at bytes ∷ log) = written (read_of log) at bytes
read_of (cut n ∷ log) = take n (read_of log)
read_of (sync ∷ log) = read_of log

-- what a crash now may leave
abbrev pub left_of : List Change → List ℕ → Type 0
left_of [] c = c ≡ []
left_of (write at bytes ∷ log) c = (c ≡ written (read_of log) at bytes) ⊎ ((d : List ℕ) × left_of log d × Torn at (length bytes) d c)
left_of (cut n ∷ log) c = (c ≡ take n (read_of log)) ⊎ ((d : List ℕ) × left_of log d × Cut n d c)
left_of (sync ∷ log) c = c ≡ read_of log

-- what a crash at any moment since t may have left; the moment is the number of changes
abbrev pub left_since_of : List Change → ℕ → List ℕ → Type 0
left_since_of [] t c = (t ≤ 0) × (c ≡ [])
left_since_of (change ∷ log) t c = ((t ≤ length (change ∷ log)) × left_of (change ∷ log) c) ⊎ left_since_of log t c

-- The clauses of a disk's calls that answer Ok, and its laws.
pub record KeepsModel {D : Type 0} (seen : D → List ℕ) (may_leave : D → List ℕ → Type 0) (moment : D → ℕ) (left_since : D → ℕ → List ℕ → Type 0) : Type 0 where
  pub write_at : (old : D) (at : ℕ) (bytes : List ℕ) → at ≤ length (seen old)
      → (new : D) × (seen new ≡ written (seen old) at bytes) × Changes may_leave moment left_since (Torn at (length bytes)) old new
  pub cut : (old : D) (n : ℕ) → n ≤ length (seen old) → (new : D) × (seen new ≡ take n (seen old)) × Changes may_leave moment left_since (Cut n) old new
  pub sync : (old : D) → (new : D) × Only (seen old) (may_leave new) × IsQuiet seen may_leave moment left_since old new
  pub len_read_and_renew : (disk : D) → IsQuiet seen may_leave moment left_since disk disk
  pub read_may_stay : (disk : D) → may_leave disk (seen disk)
  pub counts_now : (disk : D) (t : ℕ) (c : List ℕ) → t ≤ moment disk → may_leave disk c → left_since disk t c
  pub only_now : (disk : D) (c : List ℕ) → left_since disk (moment disk) c → may_leave disk c
