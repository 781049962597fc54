-- How the code goes through pairs and readable leaves side by side. Only private contracts cite this.
use Rattle.std.specs.Prelude.{ℕ, suc, List, [], ◌∷◌, Option, Some, None, Result, Ok, Err, if◌then◌else◌, length, map, nat_lt}
use Rattle.std.specs.declared.cmp.Ordering.TheVariants.{Less, Equal, Greater}
use Rattle.std.specs.Borrow.{Bor}
use Rattle.mcv_cert.specs.Pair.{ReasonValue, PlaceValue, PairValue, index_of, index_cmp}
use Rattle.mcv_judge.specs.Reason.{fault_of, is_whole}
use Rattle.mcv_judge.specs.Faults.{Required, place_required}
use Rattle.mcv_judge.specs.PairsInMemory.{pairs_of}
use Rattle.mcv_judge.specs.declared.fault.PairFault.{PairFault}
use Rattle.mcv_judge.specs.declared.fault.PairFault.TheVariants.{Missing, Stray}
use Rattle.mcv_cert.specs.declared.pair.Pair.{Pair}

-- a readable leaf, with the first index that still has no pair
pub record Entry : Type 0 where
  pub place : PlaceValue
  pub from : ℕ
  pub size : ℕ
  pub judge : ReasonValue → Option PairFault

abbrev pub entry_from : ℕ → Required → Entry
entry_from i o = record { place = place_required o; from = i; size = length o.leaf.servers; judge = fault_of o.block o.leaf }

abbrev pub entries : List Required → List Entry
entries os = map (entry_from 0) os

-- the entry of a leaf from an index on, if there are indexes left
abbrev pub entries_left : ℕ → Required → List Entry
entries_left i o = if nat_lt i (length o.leaf.servers) then entry_from i o ∷ [] else []

-- what is left once a reason was given for the first entry's index
abbrev pub after : ReasonValue → Entry → List Entry → List Entry
after r e es = if is_whole r then es else (if nat_lt (suc e.from) e.size then record { place = e.place; from = suc e.from; size = e.size; judge = e.judge } ∷ es else es)

-- a fault comes before what follows
abbrev pub or_else : {A : Type 0} → Option PairFault → Result A PairFault → Result A PairFault
or_else None next = next
or_else (Some f) next = Err f

-- the pairs behind those of the entries, or the first fault
abbrev pub walk : List PairValue → List Entry → Result (List PairValue) PairFault
walk pairs [] = Ok pairs
walk [] (e ∷ es) = Err Missing
walk (r ∷ pairs) (e ∷ es) = elim (index_cmp r.place (index_of r.reason) e.place e.from) [
  | Less ↦ Err Stray
  | Equal ↦ or_else (e.judge r.reason) (walk pairs (after r.reason e es))
  | Greater ↦ Err Missing
]

abbrev pub walked : Result (Bor (List Pair)) PairFault → Result (List PairValue) PairFault
walked (Ok rest) = Ok (pairs_of rest.now)
walked (Err f) = Err f

-- what is wrong, if anything
abbrev pub fault_in : {A : Type 0} → Result A PairFault → Option PairFault
fault_in (Ok x) = None
fault_in (Err f) = Some f
