-- The spool file (own): a row of slots of 640 bytes, and the gate of the slot behind the last.
--
-- Slot k is at offset 640 * k. Its byte 0 is its gate: 0 closed, any other open. Byte 1 says whether its record
-- is done: 0 pending, any other done. Then come two lengths of two bytes, the server text, the rest, and zeros.
use Rattle.std.specs.Prelude.{◌≡◌, ℕ, ◌+◌, ◌-◌, ◌*◌, ◌/◌, ◌%◌, ◌<◌, ◌==◌, ◌&&◌, ◌||◌, not, nat_le, nat_lt, Bool, List, [], ◌∷◌, ◌++◌, length, take, drop, slice_index, slice_index_or, set, replicate, zero, suc, Option, Some, None, is_none, if◌then◌else◌}
use Rattle.mcv_base.specs.Key.{is_key_word}
use Rattle.mcv_base.specs.Server.{is_server}
use Rattle.mcv_spool.specs.declared.record.SpoolRecord.{SpoolRecord}

-- two bytes, big end first
abbrev pub two : ℕ → List ℕ
two n = n / 256 ∷ n % 256 ∷ []

-- bytes 1 to 639 of the slot of a record that is pending
abbrev pub body : SpoolRecord → List ℕ
body r = 0 ∷ two (length r.server) ++ two (length r.rest) ++ r.server ++ r.rest ++ replicate (634 - length r.server - length r.rest) 0

-- the slot of a record that is pending, its gate open
abbrev pub slot_of : SpoolRecord → List ℕ
slot_of r = 1 ∷ body r

-- the number that two bytes spell
abbrev pub number_at : List ℕ → ℕ → ℕ
number_at slot i = 256 * slice_index slot i + slice_index slot (i + 1)

-- a server text of 1 to 261 bytes and a rest of 1 to 250, which read
abbrev pub read_parts : List ℕ → List ℕ → Option SpoolRecord
read_parts server rest = if is_server server && is_key_word rest then Some (record { server = server; rest = rest }) else None

-- the record of a slot, if it reads
unfoldable pub read_record : List ℕ → Option SpoolRecord
read_record slot =
    let s = number_at slot 2 in
    let r = number_at slot 4 in
    if nat_le s 261 && nat_le r 250 then read_parts (take s (drop 6 slot)) (take r (drop s (drop 6 slot))) else None

-- the record of a slot is done
abbrev pub is_done : List ℕ → Bool
is_done slot = not (slice_index slot 1 == 0)

-- the file begins with a slot that counts: its gate is open, and all of it and the next gate are there
abbrev pub is_open : List ℕ → Bool
is_open file = nat_lt 640 (length file) && not (slice_index file 0 == 0)

-- the slots before the end gate, at most n of them
unfoldable pub slots_within : ℕ → List ℕ → List (List ℕ)
slots_within zero file = []
slots_within (suc n) file = if is_open file then take 640 file ∷ slots_within n (drop 640 file) else []

-- the slots before the end gate, the first gate that is closed, missing, or open with less than a slot and the next gate
unfoldable pub slots : List ℕ → List (List ℕ)
slots file = slots_within (length file) file

-- the end gate is there, and closed
pub record IsClosed (file : List ℕ) : Type 0 where
  pub there : 640 * length (slots file) < length file
  pub closed : slice_index file (640 * length (slots file)) ≡ 0

-- slots that a file may have
abbrev pub slot_limit : ℕ
slot_limit = 1000000

-- the number of the first damaged slot, if there is one: it doesn't read, or no file may have it
abbrev pub damage : ℕ → List (List ℕ) → Option ℕ
damage k [] = None
damage k (slot ∷ all) = if k == slot_limit || is_none (read_record slot) then Some k else damage (k + 1) all

-- the record that is pending in a slot: its own, unless it is done
abbrev pub waiting : List ℕ → Option SpoolRecord
waiting slot = if is_done slot then None else read_record slot

-- the slots, with the record of slot k marked as done
abbrev pub marked : ℕ → List (List ℕ) → List (List ℕ)
marked k all = set all k (set (slice_index_or all k []) 1 1)
