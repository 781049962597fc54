-- The definitions at small files.
use Rattle.std.proofs.Common.{◌≡◌, [], ◌∷◌, ◌++◌, length, map, take, set, codes, None, Some, refl}
use Rattle.mcv_spool.specs.File.{damage, marked, read_record, slot_of, slots, slots_within, waiting}
use Rattle.mcv_base.specs.Server.{is_host, is_port, is_server}
use Rattle.mcv_spool.specs.declared.record.SpoolRecord.{SpoolRecord}

abbrev first : SpoolRecord
first = record { server = codes "a:11211"; rest = codes "a" }

-- a file of one record has 641 bytes, and begins so
one_record : length (slot_of first ++ 0 ∷ []) ≡ 641
one_record = refl

spelled : take 14 (slot_of first) ≡ 1 ∷ 0 ∷ 0 ∷ 7 ∷ 0 ∷ 1 ∷ codes "a:11211a"
spelled = refl

reads : read_record (slot_of first) ≡ Some first
unfolding read_record is_server is_host is_port
reads = refl

empty_file : slots [] ≡ []
unfolding slots slots_within
empty_file = refl

one_byte : slots (255 ∷ []) ≡ []
unfolding slots slots_within
one_byte = refl

-- a length of 0 doesn't read
damaged : damage 0 (set (slot_of first) 3 0 ∷ []) ≡ Some 0
unfolding read_record is_server is_host is_port
damaged = refl

-- a slot whose record is done, and one whose is not
pending_one : map waiting (marked 0 (slot_of first ∷ []) ++ slot_of first ∷ []) ≡ None ∷ Some first ∷ []
unfolding read_record is_server is_host is_port
pending_one = refl

pending_none : map waiting (marked 0 (slot_of first ∷ [])) ≡ None ∷ []
unfolding read_record is_server is_host is_port
pending_none = refl
