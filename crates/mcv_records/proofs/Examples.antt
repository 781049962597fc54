-- The definitions at small files.
use Rattle.std.proofs.Common.{◌≡◌, [], ◌∷◌, ◌++◌, codes, refl}
use Rattle.std.specs.Fmt.{digits}
use Rattle.mcv_base.specs.Server.{is_host, is_port, is_server}
use Rattle.mcv_spool.specs.File.{marked, read_record, slot_of}
use Rattle.mcv_spool.specs.declared.record.SpoolRecord.{SpoolRecord}
use Rattle.mcv_records.specs.Text.{count_line, slot_lines}
use Rattle.mcv_records.specs.declared.list.Shown.TheVariants.{Pending, All}

abbrev first : SpoolRecord
first = record { server = codes "a:11211"; rest = codes "a%" }

-- slots 3 and 4, of which the first is done
all_lines : slot_lines All 3 (marked 0 (slot_of first ∷ []) ++ slot_of first ∷ []) ≡ codes "3 done a:11211 a%25\n4 pending a:11211 a%25\n"
unfolding digits read_record is_server is_host is_port
all_lines = refl

pending_lines : slot_lines Pending 3 (marked 0 (slot_of first ∷ []) ++ slot_of first ∷ []) ≡ codes "4 pending a:11211 a%25\n"
unfolding digits read_record is_server is_host is_port
pending_lines = refl

last_line : count_line 12 7 ≡ codes "records 12 pending 7\n"
unfolding digits
last_line = refl
