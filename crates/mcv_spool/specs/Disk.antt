-- A disk with one file (own): what its calls do to what a read gives, and to what a crash may leave.
use Rattle.std.specs.Prelude.{◌≡◌, ◌⊎◌, ℕ, ◌+◌, ◌≤◌, max, List, ◌++◌, length, take, drop}

-- the file with these bytes at this offset, which is at most its length
abbrev pub written : List ℕ → ℕ → List ℕ → List ℕ
written file at bytes = take at file ++ bytes ++ drop (at + length bytes) file

-- What a crash leaves after a write of n bytes, where it left `old` before: any bytes in that range,
-- any length between, and elsewhere the same.
pub record Torn (at n : ℕ) (old new : List ℕ) : Type 0 where
  pub before : take at new ≡ take at old
  pub after : drop (at + n) new ≡ drop (at + n) old
  pub no_shorter : length old ≤ length new
  pub no_longer : length new ≤ max (length old) (at + n)

-- What a crash leaves after a cut to n bytes: any length between, and any bytes from n on.
pub record Cut (n : ℕ) (old new : List ℕ) : Type 0 where
  pub before : take n new ≡ take n old
  pub no_longer : length new ≤ length old

-- a crash leaves this and nothing else
abbrev pub Only : List ℕ → (List ℕ → Type 0) → Type 0
Only file may_leave = (c : List ℕ) → may_leave c → c ≡ file

-- A call that changes no byte: a read, or a sync, after which a crash may leave less than before.
pub record IsQuiet {D : Type 0} (seen : D → List ℕ) (may_leave : D → List ℕ → Type 0) (moment : D → ℕ) (left_since : D → ℕ → List ℕ → Type 0) (old new : D) : Type 0 where
  pub same : seen new ≡ seen old
  pub crash : (c : List ℕ) → may_leave new c → may_leave old c
  pub later : moment old ≤ moment new
  pub since : (t : ℕ) (c : List ℕ) → t ≤ moment old → left_since new t c → left_since old t c
  pub forgets_nothing : (t : ℕ) (c : List ℕ) → t ≤ moment old → left_since old t c → left_since new t c

-- A call that changes bytes: what a crash may leave after it is what it could leave before, after a step.
pub record Changes {D : Type 0} (may_leave : D → List ℕ → Type 0) (moment : D → ℕ) (left_since : D → ℕ → List ℕ → Type 0) (step : List ℕ → List ℕ → Type 0) (old new : D) : Type 0 where
  pub crash : (c : List ℕ) → may_leave new c → (d : List ℕ) × may_leave old d × step d c
  pub later : moment old ≤ moment new
  pub since : (t : ℕ) (c : List ℕ) → t ≤ moment old → left_since new t c → left_since old t c ⊎ may_leave new c
  pub forgets_nothing : (t : ℕ) (c : List ℕ) → t ≤ moment old → left_since old t c → left_since new t c

-- what a crash leaves after a write of n bytes, if it left one of these before
abbrev pub IsTornFrom : ℕ → ℕ → (List ℕ → Type 0) → List ℕ → Type 0
IsTornFrom at n may_leave file = (before : List ℕ) × may_leave before × Torn at n before file

-- what a crash leaves after a cut to n bytes, if it left one of these before
abbrev pub IsCutFrom : ℕ → (List ℕ → Type 0) → List ℕ → Type 0
IsCutFrom n may_leave file = (before : List ℕ) × may_leave before × Cut n before file

-- A crash at any moment from `old` to `new` leaves what it could leave at `old`, or a file that has P.
pub record LeavesOnly {D : Type 0} (moment : D → ℕ) (left_since : D → ℕ → List ℕ → Type 0) (old new : D) (P : List ℕ → Type 0) : Type 0 where
  pub later : moment old ≤ moment new
  pub since : (t : ℕ) (c : List ℕ) → t ≤ moment old → left_since new t c → left_since old t c ⊎ P c
