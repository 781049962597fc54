-- What a spool knows of its file after each call.
use Rattle.std.proofs.Common.{◌≡◌, ℕ, ◌<◌, Option, None, Some, List, [], ◌∷◌, ◌++◌, length, map, set, sym, ◌∙◌, ap, subst, arith}
use Rattle.std.proofs.lemmas.List.{length-map}
use Rattle.mcv_spool.specs.Disk.{Only}
use Rattle.mcv_spool.specs.File.{IsClosed, damage, marked, read_record, slot_of, slots, waiting}
use Rattle.mcv_spool.specs.FoundFile.{IsFound}
use Rattle.mcv_spool.specs.Version.{IsSettled, IsVersion}
use Rattle.mcv_spool.specs.declared.record.SpoolRecord.{SpoolRecord}
use Rattle.mcv_spool.proofs.Records.{damage_push, sound_marked, waiting_marked, waiting_push}
use Rattle.mcv_spool.proofs.Slots.{parts}
use Rattle.mcv_spool.proofs.Versions.{version_self}

-- a closed file that is on the disk
only_version : (new : List ℕ) (may_leave : List ℕ → Type 0) → IsClosed new → Only new may_leave → (c : List ℕ) → may_leave c → IsVersion (slots new) c
only_version new may_leave closed only c left = subst (IsVersion (slots new)) (sym (only c left)) (version_self new closed)

-- as many as the file has slots
pub counted_slots : (file : List ℕ) (pending : List (Option SpoolRecord)) → IsFound file pending → length pending ≡ length (slots file)
counted_slots file pending found = ap length found.undone ∙ length-map (slots file) waiting

pub settled_append : (file new : List ℕ) (may_leave : List ℕ → Type 0) (pending : List (Option SpoolRecord)) (r : SpoolRecord) → IsFound file pending → read_record (slot_of r) ≡ Some r → length pending < 1000000
    → slots new ≡ slots file ++ slot_of r ∷ [] → IsClosed new → Only new may_leave
    → (new_pending : List (Option SpoolRecord)) → new_pending ≡ pending ++ Some r ∷ [] → IsSettled new may_leave new_pending
settled_append file new may_leave pending r found reads room same closed only new_pending pending_is = record {
  found = record {
    sound = ap (damage 0) same ∙ damage_push (slots file) r reads found.sound (omega (arith, counted_slots file pending found, room));
    undone = pending_is ∙ ap (λ (l : List (Option SpoolRecord)). l ++ Some r ∷ []) found.undone ∙ sym (waiting_push (slots file) r reads) ∙ ap (map waiting) (sym same);
  };
  crash = only_version new may_leave closed only;
}

pub settled_done : (file new : List ℕ) (may_leave : List ℕ → Type 0) (k : ℕ) (pending : List (Option SpoolRecord)) → IsFound file pending → k < length (slots file) → slots new ≡ marked k (slots file)
    → ((c : List ℕ) → may_leave c → IsVersion (marked k (slots file)) c)
    → (new_pending : List (Option SpoolRecord)) → new_pending ≡ set pending k None → IsSettled new may_leave new_pending
settled_done file new may_leave k pending found there same versions new_pending pending_is = record {
  found = record {
    sound = ap (damage 0) same ∙ sound_marked k (slots file) found.sound;
    undone = pending_is ∙ ap (λ (l : List (Option SpoolRecord)). set l k None) found.undone ∙ sym (waiting_marked k (slots file) (parts file).all there) ∙ ap (map waiting) (sym same);
  };
  crash = λ c left. subst (λ (ss : List (List ℕ)). IsVersion ss c) (sym same) (versions c left);
}
