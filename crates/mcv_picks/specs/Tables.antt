-- How the tables are read. Only private contracts cite this.
use Rattle.std.specs.Prelude.{ℕ, Bool, true, List, Option, Some, None, ◌≡◌, ◌<◌, ◌&&◌, if◌then◌else◌, nat_eq, nat_lt, find, is_some}
use Rattle.std.specs.Borrow.{Bor}
use Rattle.std.specs.BTreeMap.{BTreeMap, get}
use Rattle.std.specs.Option.{option_map}
use Rattle.std.specs.Cmp.Lexicographic.{slice_cmp}
use Rattle.std.specs.Ordering.{nat_cmp, ordering_then}
use Rattle.std.specs.declared.cmp.Ordering.{Ordering}
use Rattle.mcv_base.specs.declared.request.ServerId.{ServerId}
use Rattle.mcv_judge.specs.declared.block.Leg.{Leg}
use Rattle.mcv_judge.specs.PairsInMemory.{numbers}
use Rattle.mcv_judge.specs.Reason.{LegValue, is_same_list, is_same_server, is_twin, has_server, server_at}
use Rattle.mcv_picks.specs.Picks.{borrowed, filling}

-- what twins share: a symbol and a list of servers
abbrev pub TwinKey : Type 0
TwinKey = ℕ × Bor (List ServerId)

abbrev pub twin_cmp : TwinKey → TwinKey → Ordering
twin_cmp j k = ordering_then (nat_cmp j.0 k.0) (slice_cmp (λ (x y : ServerId). nat_cmp x.0 y.0) j.1.now k.1.now)

-- a leg that has these
abbrev pub is_of : TwinKey → LegValue → Bool
is_of k d = nat_eq d.symbol k.0 && is_same_list d.servers (numbers k.1.now)

-- a symbol, an index and a server
abbrev pub Slot : Type 0
Slot = ℕ × ℕ × ℕ

abbrev pub slot_cmp : Slot → Slot → Ordering
slot_cmp j k = ordering_then (ordering_then (nat_cmp j.0 k.0) (nat_cmp j.1 k.1)) (nat_cmp j.2 k.2)

-- a leg with the server at the slot's index
abbrev pub is_at : Slot → LegValue → Bool
is_at q d = has_server q.0 (Some q.2) q.1 d

-- a test that doesn't distinguish twins
abbrev pub IsSameOnTwins : (LegValue → Bool) → Type 0
IsSameOnTwins test = (d e : LegValue) → is_twin d e ≡ true → test d ≡ test e

-- the first legs of all classes, to a test that doesn't distinguish twins as good as all legs
abbrev pub FindTheSame : List LegValue → List LegValue → Type 0
FindTheSame firsts legs = (test : LegValue → Bool) → IsSameOnTwins test → find test firsts ≡ find test legs

-- ---- the tables

abbrev pub IsByTwinKey : BTreeMap TwinKey (Bor Leg) → List LegValue → Type 0
IsByTwinKey table legs = (k : TwinKey) → option_map borrowed (get twin_cmp table k) ≡ find (is_of k) legs

abbrev pub IsBySlot : BTreeMap Slot (Bor Leg) → List LegValue → Type 0
IsBySlot table legs = (q : Slot) → option_map borrowed (get slot_cmp table q) ≡ find (is_at q) legs

-- the symbol with the least number that has a leg with the server for each index
abbrev pub IsLeast : List LegValue → (server : ℕ) → Option ℕ → Type 0
IsLeast legs x None = (s : ℕ) → filling legs s x ≡ None
IsLeast legs x (Some s) = (is_some (filling legs s x) ≡ true) × ((t : ℕ) → t < s → filling legs t x ≡ None)

abbrev pub IsByServer : BTreeMap ℕ ℕ → List LegValue → Type 0
IsByServer table legs = (x : ℕ) → IsLeast legs x (get nat_cmp table x)

-- there is none, or this one is less
abbrev pub is_lesser : Option ℕ → ℕ → Bool
is_lesser None s = true
is_lesser (Some t) s = nat_lt s t

-- the lesser one
abbrev pub least : Option ℕ → ℕ → ℕ
least None s = s
least (Some t) s = if nat_lt s t then s else t

-- the leg's server at index 0 is this one, and its symbol has a leg with it for each index
abbrev pub is_filled_by : List LegValue → (server : ℕ) → LegValue → Bool
is_filled_by legs x d = is_same_server (server_at d 0) (Some x) && is_some (filling legs d.symbol x)
