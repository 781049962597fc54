-- What is known of a file once it has been read, and which refusals a call may give.
use Rattle.std.specs.Prelude.{◌≡◌, ℕ, List, map, None, Option, Result, Ok, Err}
use Rattle.mcv_spool.specs.File.{slots, damage, waiting}
use Rattle.mcv_spool.specs.declared.fault.SpoolFault.{SpoolFault}
use Rattle.mcv_spool.specs.declared.fault.SpoolFault.TheVariants.{Device, Full, Memory, Reopen, Damaged}
use Rattle.mcv_spool.specs.declared.record.SpoolRecord.{SpoolRecord}

-- no slot of the file is damaged, and these are the records that are pending in them, slot by slot
pub record IsFound (file : List ℕ) (pending : List (Option SpoolRecord)) : Type 0 where
  pub sound : damage 0 (slots file) ≡ None
  pub undone : pending ≡ map waiting (slots file)

-- a refusal for being out of memory, or for a damaged slot, if there is one
abbrev pub IsFindFault : {T : Type 0} → Result T SpoolFault → Type 0
IsFindFault (Ok x) = Unit {0}
IsFindFault (Err Device) = ⊥
IsFindFault (Err Full) = ⊥
IsFindFault (Err Memory) = Unit {0}
IsFindFault (Err Reopen) = ⊥
IsFindFault (Err (Damaged k)) = Unit {0}

-- a refusal for being out of memory or because the disk failed, if there is one
abbrev pub IsReadFault : {T : Type 0} → Result T SpoolFault → Type 0
IsReadFault (Ok x) = Unit {0}
IsReadFault (Err Device) = Unit {0}
IsReadFault (Err Full) = ⊥
IsReadFault (Err Memory) = Unit {0}
IsReadFault (Err Reopen) = ⊥
IsReadFault (Err (Damaged k)) = ⊥

-- a refusal that opening a file gives, if there is one
abbrev pub IsOpenFault : {T : Type 0} → Result T SpoolFault → Type 0
IsOpenFault (Ok x) = Unit {0}
IsOpenFault (Err Device) = Unit {0}
IsOpenFault (Err Full) = ⊥
IsOpenFault (Err Memory) = Unit {0}
IsOpenFault (Err Reopen) = ⊥
IsOpenFault (Err (Damaged k)) = Unit {0}

-- a refusal that `append` gives, if there is one
abbrev pub IsAppendFault : {T : Type 0} → Result T SpoolFault → Type 0
IsAppendFault (Ok x) = Unit {0}
IsAppendFault (Err Device) = Unit {0}
IsAppendFault (Err Full) = Unit {0}
IsAppendFault (Err Memory) = Unit {0}
IsAppendFault (Err Reopen) = Unit {0}
IsAppendFault (Err (Damaged k)) = ⊥

-- a refusal that `done` gives, if there is one
abbrev pub IsDoneFault : {T : Type 0} → Result T SpoolFault → Type 0
IsDoneFault (Ok x) = Unit {0}
IsDoneFault (Err Device) = Unit {0}
IsDoneFault (Err Full) = ⊥
IsDoneFault (Err Memory) = ⊥
IsDoneFault (Err Reopen) = Unit {0}
IsDoneFault (Err (Damaged k)) = ⊥

-- a refusal after which all is as before
abbrev pub WritesNothing : {T : Type 0} → Result T SpoolFault → Type 0
WritesNothing (Ok x) = ⊥
WritesNothing (Err Device) = ⊥
WritesNothing (Err Full) = Unit {0}
WritesNothing (Err Memory) = Unit {0}
WritesNothing (Err Reopen) = Unit {0}
WritesNothing (Err (Damaged k)) = ⊥
