-- The text of a file's records (own): a line for each, in the order of the slots, and a last line with their count.
use Rattle.std.specs.Prelude.{◌≡◌, ℕ, ◌+◌, Bool, true, false, not, List, [], ◌∷◌, ◌++◌, length, Option, Some, None, codes, count_by, decimal, if◌then◌else◌}
use Rattle.mcv_cert.specs.Escape.{escaped}
use Rattle.mcv_spool.specs.File.{is_done, read_record, slots}
use Rattle.mcv_spool.specs.declared.record.SpoolRecord.{SpoolRecord}
use Rattle.mcv_records.specs.declared.list.Shown.{Shown}
use Rattle.mcv_records.specs.declared.list.Shown.TheVariants.{Pending, All}

-- the slot reads, and holds this record
abbrev pub IsRecord : List ℕ → List ℕ → List ℕ → Type 0
IsRecord slot server rest = read_record slot ≡ Some (record { server = server; rest = rest })

abbrev pub is_pending : List ℕ → Bool
is_pending slot = not (is_done slot)

abbrev pub state_word : Bool → List ℕ
state_word true = codes "pending"
state_word false = codes "done"

-- `number state server rest`, the rest escaped
abbrev pub record_line : ℕ → Bool → List ℕ → List ℕ → List ℕ
record_line k pending server rest =
    decimal k ++ codes " " ++ state_word pending ++ codes " " ++ server ++ codes " " ++ escaped rest ++ codes "\n"

abbrev pub line_of : ℕ → Bool → Option SpoolRecord → List ℕ
line_of k pending None = []
line_of k pending (Some r) = record_line k pending r.server r.rest

-- those that are pending, or all
abbrev pub is_shown : Shown → List ℕ → Bool
is_shown Pending slot = is_pending slot
is_shown All slot = true

-- the line of the slot of number k, where it is shown
abbrev pub slot_line : Shown → ℕ → List ℕ → List ℕ
slot_line shown k slot = if is_shown shown slot then line_of k (is_pending slot) (read_record slot) else []

-- those of slots of which the first has number k
abbrev pub slot_lines : Shown → ℕ → List (List ℕ) → List ℕ
slot_lines shown k [] = []
slot_lines shown k (slot ∷ all) = slot_line shown k slot ++ slot_lines shown (k + 1) all

abbrev pub pending_count : List (List ℕ) → ℕ
pending_count all = count_by is_pending all

-- `records all pending some`
abbrev pub count_line : ℕ → ℕ → List ℕ
count_line all pending = codes "records " ++ decimal all ++ codes " pending " ++ decimal pending ++ codes "\n"

abbrev pub records_text : Shown → List ℕ → List ℕ
records_text shown file = slot_lines shown 0 (slots file) ++ count_line (length (slots file)) (pending_count (slots file))
