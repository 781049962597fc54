-- Which fault is at a place while pairs are judged one by one: a leaf's indexes before the entry's first one want nothing more.
use Rattle.std.specs.Prelude.{◌≡◌, ◌<◌, ◌&&◌, ◌||◌, not, ℕ, Bool, List, [], ◌∷◌, ◌++◌, Option, Some, None, Result, Ok, Err, nat_lt, nat_le, nat_eq, if◌then◌else◌, find, ⊤}
use Rattle.std.specs.declared.cmp.Ordering.TheVariants.{Less}
use Rattle.std.specs.Ordering.{is_eq}
use Rattle.mcv_cert.specs.Pair.{PlaceValue, PairValue, index_of, place_cmp, index_cmp}
use Rattle.mcv_judge.specs.Faults.{pair_at, is_answered_whole}
use Rattle.mcv_judge.specs.Walk.{Entry}
use Rattle.mcv_judge.specs.declared.fault.PairFault.{PairFault}
use Rattle.mcv_judge.specs.declared.fault.PairFault.TheVariants.{Missing, Stray}

abbrev pub entry_at : List Entry → PlaceValue → Option Entry
entry_at es s = find (λ e. is_eq (place_cmp e.place s)) es

abbrev pub is_open : Entry → ℕ → Bool
is_open e i = nat_le e.from i && nat_lt i e.size

abbrev pub fault_beside : Option Entry → Option PairValue → (whole : Bool) → ℕ → Option PairFault
fault_beside None None whole i = None
fault_beside None (Some r) whole i = Some Stray
fault_beside (Some e) None whole i = if is_open e i && not whole then Some Missing else None
fault_beside (Some e) (Some r) whole i = if is_open e i && (nat_eq i 0 || not whole) then e.judge r.reason else Some Stray

abbrev pub fault_from : List PairValue → List Entry → PlaceValue → ℕ → Option PairFault
fault_from pairs es s i = fault_beside (entry_at es s) (pair_at pairs s i) (is_answered_whole pairs s) i

abbrev pub IsFirst : List PairValue → List Entry → PairFault → Type 0
IsFirst pairs es f = (s : PlaceValue) × (i : ℕ) × (fault_from pairs es s i ≡ Some f) × ((t : PlaceValue) (j : ℕ) → index_cmp t j s i ≡ Less → fault_from pairs es t j ≡ None)

-- all pairs come behind the place
abbrev pub IsBelowPairs : PlaceValue → ℕ → List PairValue → Type 0
IsBelowPairs s i [] = ⊤
IsBelowPairs s i (r ∷ pairs) = (index_cmp s i r.place (index_of r.reason) ≡ Less) × IsBelowPairs s i pairs

abbrev pub ArePairsAscending : List PairValue → Type 0
ArePairsAscending [] = ⊤
ArePairsAscending (r ∷ pairs) = IsBelowPairs r.place (index_of r.reason) pairs × ArePairsAscending pairs

abbrev pub IsBelowEntries : PlaceValue → List Entry → Type 0
IsBelowEntries s [] = ⊤
IsBelowEntries s (e ∷ es) = (place_cmp s e.place ≡ Less) × IsBelowEntries s es

-- places rise, and each entry has an index left
abbrev pub AreEntriesRising : List Entry → Type 0
AreEntriesRising [] = ⊤
AreEntriesRising (e ∷ es) = (e.from < e.size) × IsBelowEntries e.place es × AreEntriesRising es

-- what the walk along the first entries answers, whatever entries come behind
abbrev pub Judges : List PairValue → List Entry → List Entry → Result (List PairValue) PairFault → Type 0
Judges pairs es later (Ok rest) = ArePairsAscending rest × ((s : PlaceValue) (i : ℕ) → fault_from pairs (es ++ later) s i ≡ fault_from rest later s i)
Judges pairs es later (Err f) = IsFirst pairs (es ++ later) f
