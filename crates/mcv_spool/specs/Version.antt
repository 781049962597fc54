-- What a crash may leave of a file: the same records, or these and one more.
use Rattle.std.specs.Prelude.{◌≡◌, ◌⊎◌, ℕ, true, Option, List, [], ◌∷◌, ◌++◌, map, slice_index_or}
use Rattle.mcv_spool.specs.File.{slots, read_record, is_done, IsClosed, slot_of}
use Rattle.mcv_spool.specs.FoundFile.{IsFound}
use Rattle.mcv_spool.specs.declared.record.SpoolRecord.{SpoolRecord}

-- The file has the records of these slots, each done only where its slot is, and its end gate is closed.
pub record IsVersion (all : List (List ℕ)) (file : List ℕ) : Type 0 where
  pub records : map read_record (slots file) ≡ map read_record all
  pub done : (k : ℕ) → is_done (slice_index_or (slots file) k []) ≡ true → is_done (slice_index_or all k []) ≡ true
  pub closed : IsClosed file

-- the same, or these and one more record
abbrev pub IsBeforeOrAfter : List (List ℕ) → SpoolRecord → List ℕ → Type 0
IsBeforeOrAfter all r file = IsVersion all file ⊎ IsVersion (all ++ slot_of r ∷ []) file

-- the file has the slots of one that a crash could have left before
abbrev pub HasSlotsOf : (List ℕ → Type 0) → List ℕ → Type 0
HasSlotsOf may_leave file = (before : List ℕ) × may_leave before × (slots file ≡ slots before)

-- what a spool knows of its file: what a read gives, and that a crash leaves these records
pub record IsSettled (file : List ℕ) (may_leave : List ℕ → Type 0) (pending : List (Option SpoolRecord)) : Type 0 where
  pub found : IsFound file pending
  pub crash : (c : List ℕ) → may_leave c → IsVersion (slots file) c
