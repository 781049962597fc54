-- What a spool has reported over any list of calls, with a stop of the machine at any moment, and what its file has to hold for that (own).
use Rattle.std.specs.Prelude.{◌≡◌, ℕ, ◌<◌, ◌≤◌, Bool, true, false, List, [], ◌∷◌, ◌++◌, length, map, slice_index_or, Option, Some, None, not, Result, Ok, Err}
use Rattle.std.specs.List.{Contains}
use Rattle.mcv_spool.specs.Disk.{LeavesOnly, Only}
use Rattle.mcv_spool.specs.File.{is_done, marked, read_record, slot_limit, slot_of, slots}
use Rattle.mcv_spool.specs.Version.{HasSlotsOf, IsBeforeOrAfter, IsVersion}
use Rattle.mcv_spool.specs.declared.fault.SpoolFault.{SpoolFault}
use Rattle.mcv_spool.specs.declared.fault.SpoolFault.TheVariants.{Device, Full, Memory, Reopen, Damaged}
use Rattle.mcv_spool.specs.declared.record.SpoolRecord.{SpoolRecord}

abbrev pub record_in : Option SpoolRecord → List SpoolRecord
record_in None = []
record_in (Some r) = r ∷ []

-- the records of slots
abbrev pub records_of : List (List ℕ) → List SpoolRecord
records_of [] = []
records_of (slot ∷ all) = record_in (read_record slot) ++ records_of all

-- What the calls have reported so far.
pub record Reported : Type 0 where
  -- the records that the last `open` or `reopen` that answered Ok found
  pub found : List SpoolRecord
  -- those appended since, whose `append` answered Ok
  pub stored : List SpoolRecord
  -- those appended since, whose `append` answered Device or was stopped
  pub tried : List SpoolRecord
  -- the numbers for which `done` was called, ever
  pub done : List ℕ

abbrev pub nothing_reported : Reported
nothing_reported = record { found = []; stored = []; tried = []; done = [] }

-- `open` or `reopen` answered Ok
abbrev pub reported_found : List SpoolRecord → Reported → Reported
reported_found records t = record { found = records; stored = []; tried = []; done = t.done }

abbrev pub reported_stored : SpoolRecord → Reported → Reported
reported_stored r t = record { found = t.found; stored = t.stored ++ r ∷ []; tried = t.tried; done = t.done }

abbrev pub reported_tried : SpoolRecord → Reported → Reported
reported_tried r t = record { found = t.found; stored = t.stored; tried = t.tried ++ r ∷ []; done = t.done }

abbrev pub reported_done : ℕ → Reported → Reported
reported_done k t = record { found = t.found; stored = t.stored; tried = t.tried; done = k ∷ t.done }

-- what the answers of the calls report
abbrev pub reopen_reported : {T : Type 0} → Result T SpoolFault → List SpoolRecord → Reported → Reported
reopen_reported (Ok x) records = reported_found records
reopen_reported (Err e) records = λ t. t

abbrev pub append_reported : {T : Type 0} → Result T SpoolFault → SpoolRecord → Reported → Reported
append_reported (Ok x) r = reported_stored r
append_reported (Err Device) r = reported_tried r
append_reported (Err Full) r = λ t. t
append_reported (Err Memory) r = λ t. t
append_reported (Err Reopen) r = λ t. t
append_reported (Err (Damaged k)) r = λ t. t

abbrev pub done_reported : {T : Type 0} → Result T SpoolFault → ℕ → Reported → Reported
done_reported (Ok x) k = reported_done k
done_reported (Err Device) k = reported_done k
done_reported (Err Full) k = λ t. t
done_reported (Err Memory) k = λ t. t
done_reported (Err Reopen) k = λ t. t
done_reported (Err (Damaged n)) k = λ t. t

-- and what is reported where the call is stopped, before it has answered
abbrev pub append_stopped : {T : Type 0} → Result T SpoolFault → SpoolRecord → Reported → Reported
append_stopped (Ok x) r = reported_tried r
append_stopped (Err Device) r = reported_tried r
append_stopped (Err Full) r = λ t. t
append_stopped (Err Memory) r = λ t. t
append_stopped (Err Reopen) r = λ t. t
append_stopped (Err (Damaged k)) r = λ t. t

-- The promise. The file has the records that the last `open` or `reopen` that answered Ok found, then a prefix of what was appended
-- since, in order, with each whose `append` answered Ok, and no more slots than a file may have. A record is marked as done only
-- where `done` was called for its number.
pub record IsKept (t : Reported) (file : List ℕ) : Type 0 where
  pub more : List SpoolRecord
  pub others : List SpoolRecord
  pub prefix : t.tried ≡ more ++ others
  pub records : map read_record (slots file) ≡ map Some (t.found ++ t.stored ++ more)
  pub few : length (slots file) ≤ slot_limit
  pub done : (k : ℕ) → is_done (slice_index_or (slots file) k []) ≡ true → Contains t.done k

-- the record of this number is one that the last `open` or `reopen` that answered Ok found, or one that was stored since
abbrev pub HasNumber : Reported → SpoolRecord → ℕ → Type 0
HasNumber t r k = (k < length (t.found ++ t.stored)) × (slice_index_or (t.found ++ t.stored) k r ≡ r)

-- Where a run of calls is: the disk, and whether a spool is open on it that doesn't answer Reopen.
pub record SpoolState (D : Type 0) : Type 0 where
  pub disk : D
  pub is_ready : Bool

-- that of an open spool
abbrev pub spool_state : {D : Type 0} → D → Bool → SpoolState D
spool_state d needs_reopen = record { disk = d; is_ready = not needs_reopen }

-- a disk on which no spool is open
abbrev pub shut : {D : Type 0} → D → SpoolState D
shut d = record { disk = d; is_ready = false }

module _ {D : Type 0} (seen : D → List ℕ) (may_leave : D → List ℕ → Type 0) (moment : D → ℕ) (left_since : D → ℕ → List ℕ → Type 0) where
  -- An `open` or `reopen` that finds these records and answers Ok.
  pub record Finds (records : List SpoolRecord) (old new : D) : Type 0 where
    pub reads : map read_record (slots (seen old)) ≡ map Some records
    pub same : slots (seen new) ≡ slots (seen old)
    pub durable : Only (seen new) (may_leave new)
    pub any_moment : LeavesOnly moment left_since old new (HasSlotsOf (may_leave old))

  -- An `append` that writes this record, for which the file has room.
  pub record Appends (r : SpoolRecord) (old new : D) : Type 0 where
    pub reads : read_record (slot_of r) ≡ Some r
    pub room : length (slots (seen old)) < slot_limit
    pub any_moment : LeavesOnly moment left_since old new (IsBeforeOrAfter (slots (seen old)) r)

  -- One that answers Ok.
  pub record Stores (r : SpoolRecord) (old new : D) : Type 0 where
    pub writes : Appends r old new
    pub adds : slots (seen new) ≡ slots (seen old) ++ slot_of r ∷ []
    pub durable : Only (seen new) (may_leave new)

  -- A `done` that answers Ok or Device.
  pub record Marks (k : ℕ) (old new : SpoolState D) : Type 0 where
    pub any_moment : LeavesOnly moment left_since old.disk new.disk (IsVersion (marked k (slots (seen old.disk))))
    pub same : new.is_ready ≡ true → map read_record (slots (seen new.disk)) ≡ map read_record (slots (seen old.disk))

  -- One call of a spool, from one state to another: what it has reported once it has answered, and what where it is stopped.
  pub data SpoolCall : SpoolState D → SpoolState D → (Reported → Reported) → (Reported → Reported) → Type 0 where
    found : (records : List SpoolRecord) (old new : SpoolState D) → Finds records old.disk new.disk → new.is_ready ≡ true → SpoolCall old new (reported_found records) (λ t. t)
    not_found : (old new : SpoolState D) → LeavesOnly moment left_since old.disk new.disk (HasSlotsOf (may_leave old.disk)) → new.is_ready ≡ false → SpoolCall old new (λ t. t) (λ t. t)
    stored : (r : SpoolRecord) (old new : SpoolState D) → old.is_ready ≡ true → Stores r old.disk new.disk → new.is_ready ≡ true → SpoolCall old new (reported_stored r) (reported_tried r)
    not_stored : (r : SpoolRecord) (old new : SpoolState D) → old.is_ready ≡ true → Appends r old.disk new.disk → new.is_ready ≡ false → SpoolCall old new (reported_tried r) (reported_tried r)
    marks : (k : ℕ) (old new : SpoolState D) → old.is_ready ≡ true → Marks k old new → SpoolCall old new (reported_done k) (reported_done k)
    -- an `append` that answers Full, Memory or Reopen, or a `done` that answers Reopen
    nothing : (state : SpoolState D) → SpoolCall state state (λ t. t) (λ t. t)

  -- Any list of calls, on a file that began empty and that these calls alone wrote: what they have reported, and where they are.
  -- The machine may stop between two calls, or at any moment in one. What goes on from there is a disk with a file that the stop may have left.
  pub data History : Reported → SpoolState D → Type 0 where
    began : (d : D) → Only [] (may_leave d) → History nothing_reported (shut d)
    called : (t : Reported) (old new : SpoolState D) (answered stopped : Reported → Reported) → History t old → SpoolCall old new answered stopped → History (answered t) new
    stopped_between : (t : Reported) (old : SpoolState D) (d : D) → History t old → ((c : List ℕ) → may_leave d c → may_leave old.disk c) → History t (shut d)
    stopped_within : (t : Reported) (old new : SpoolState D) (answered stopped : Reported → Reported) (d : D) → History t old → SpoolCall old new answered stopped
        → ((c : List ℕ) → may_leave d c → left_since new.disk (moment old.disk) c) → History (stopped t) (shut d)
