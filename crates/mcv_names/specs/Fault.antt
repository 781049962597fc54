-- What reading a value gives: what it names, or the faults in it (own).
use Rattle.std.specs.Prelude.{◌≡◌, ℕ, List, [], ◌∷◌, ◌++◌, ◌⊎◌, Result, Ok, Err, string_bytes}
use Rattle.mcv_names.specs.declared.fault.FaultKind.{FaultKind}
use Rattle.mcv_names.specs.declared.fault.FaultKind.TheVariants.{NotJson, UnknownKey, WrongKind, UnknownHandle, UnknownPool, Empty, Limit, BadServer, AliasTwice, LeftOut}
use Rattle.mcv_names.specs.declared.fault.ConfigFault.{ConfigFault}
use Rattle.mcv_names.specs.declared.fault.ReadFault.{ReadFault}
use Rattle.mcv_names.specs.declared.fault.ReadFault.TheVariants.{Config, Memory}

-- what is wrong, and where
pub record Fault : Type 0 where
  pub kind : FaultKind
  pub path : List ℕ

-- (own)
abbrev pub kind_number : FaultKind → ℕ
kind_number NotJson = 1
kind_number UnknownKey = 2
kind_number WrongKind = 3
kind_number UnknownHandle = 4
kind_number UnknownPool = 5
kind_number Empty = 6
kind_number Limit = 7
kind_number BadServer = 8
kind_number AliasTwice = 9
kind_number LeftOut = 10

abbrev pub fault_number : ConfigFault → ℕ
fault_number fault = kind_number fault.kind

abbrev pub fault_path : ConfigFault → List ℕ
fault_path fault = string_bytes fault.path

abbrev pub fault_of : ConfigFault → Fault
fault_of fault = record { kind = fault.kind; path = fault_path fault }

pub data Read (A : Type 0) : Type 0 where
  good : A → Read A
  bad : List Fault → Read A

-- the root is a dot
abbrev pub path_text : List ℕ → List ℕ
path_text [] = 46 ∷ []
path_text (b ∷ bs) = b ∷ bs

-- one fault
abbrev pub refused : {A : Type 0} → FaultKind → List ℕ → Read A
refused kind path = bad (record { kind = kind; path = path_text path } ∷ [])

infixl 10 ◌>>=◌
abbrev pub ◌>>=◌ : {A B : Type 0} → Read A → (A → Read B) → Read B
(good x) >>= next = next x
(bad faults) >>= next = bad faults

-- both are read, and the faults of both are kept
abbrev pub also : {A B : Type 0} → Read A → Read B → Read B
also (good x) second = second
also (bad faults) (good y) = bad faults
also (bad faults) (bad more) = bad (faults ++ more)

abbrev pub IsOneOf : List Fault → Fault → Type 0
IsOneOf [] f = ⊥
IsOneOf (g ∷ gs) f = (g ≡ f) ⊎ IsOneOf gs f

abbrev pub HasFault : {A : Type 0} → Read A → Fault → Type 0
HasFault (good x) f = ⊥
HasFault (bad faults) f = IsOneOf faults f

-- what a function refused is a fault, or memory ran out
abbrev pub Fails : {A : Type 0} → ReadFault → Read A → Type 0
Fails Memory read = Unit {0}
Fails (Config fault) read = HasFault read (fault_of fault)

-- What a function answered, seen by view, is what reading gives, or it is a fault of it, or memory ran out.
abbrev pub Gives : {X A : Type 0} → (X → A) → Result X ReadFault → Read A → Type 0
Gives view (Ok x) read = read ≡ good (view x)
Gives view (Err e) read = Fails e read

-- a fault of this kind at this path, or memory ran out
abbrev pub IsFault : FaultKind → List ℕ → ReadFault → Type 0
IsFault kind path Memory = Unit {0}
IsFault kind path (Config fault) = (fault.kind ≡ kind) × (fault_path fault ≡ path_text path)

-- the fault is one of these, or memory ran out
abbrev pub Refuses : ReadFault → (Fault → Type 0) → Type 0
Refuses Memory P = Unit {0}
Refuses (Config fault) P = P (fault_of fault)
