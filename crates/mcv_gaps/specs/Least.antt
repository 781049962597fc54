-- How the least legs are found. Only private contracts cite this.
use Rattle.std.specs.Prelude.{◌≡◌, ◌<◌, ⊤, ℕ, true, List, Option, Some, None, if◌then◌else◌, map, nat_eq, slice_get}
use Rattle.std.specs.Borrow.{Bor}
use Rattle.std.specs.BTreeMap.{BTreeMap, get}
use Rattle.std.specs.BTreeSet.{BTreeSet, contains}
use Rattle.std.specs.List.{Contains}
use Rattle.std.specs.Ordering.{nat_cmp}
use Rattle.mcv_base.specs.declared.request.ServerId.{ServerId}
use Rattle.mcv_judge.specs.PairsInMemory.{leg_of, numbers}
use Rattle.mcv_judge.specs.Reason.{LegValue}
use Rattle.mcv_picks.specs.Tables.{TwinKey, twin_cmp}
use Rattle.mcv_gaps.specs.Gaps.{IsMissed, WantedValue}
use Rattle.mcv_gaps.specs.declared.missing.Missing.{Missing}

-- the legs that are missing
abbrev pub leg_missing : Missing → LegValue
leg_missing m = leg_of m.leg

abbrev pub legs_missing : List Missing → List LegValue
legs_missing ms = map leg_missing ms

-- the set has each server of each leg
abbrev pub HaveServers : BTreeSet ℕ → List LegValue → Type 0
HaveServers set legs = (d : LegValue) (x : ℕ) → Contains legs d → Contains d.servers x → contains nat_cmp set x ≡ true

-- the leaf can be read, and these of its servers no acknowledged leg has
pub record IsUnsent (w : WantedValue) (m : Missing) : Type 0 where
  pub read : Contains w.readable (leg_missing m)
  pub own : (x : ℕ) → Contains m.unsent.items x → Contains (leg_missing m).servers x
  pub alone : (x : ℕ) → Contains m.unsent.items x → (d : LegValue) → Contains w.acknowledged d → Contains d.servers x → ⊥

-- of some of them
abbrev pub IsMissingOf : List WantedValue → Missing → Type 0
IsMissingOf ws m = (w : WantedValue) × Contains ws w × IsUnsent w m

-- one of the legs has the leaf's symbol and servers
pub record HasTwin (legs : List LegValue) (leaf : LegValue) : Type 0 where
  pub twin : LegValue
  pub listed : Contains legs twin
  pub symbol : twin.symbol ≡ leaf.symbol
  pub servers : twin.servers ≡ leaf.servers

-- one of the legs has this symbol and these servers
pub record HasTwinAt (legs : List LegValue) (k : TwinKey) : Type 0 where
  pub twin : LegValue
  pub listed : Contains legs twin
  pub symbol : twin.symbol ≡ k.0
  pub servers : twin.servers ≡ numbers k.1.now

-- where the set has a symbol and servers, one of the legs has them
abbrev pub TellsTwins : BTreeSet TwinKey → List LegValue → Type 0
TellsTwins seen legs = (k : TwinKey) → contains twin_cmp seen k ≡ true → HasTwinAt legs k

-- each leaf that is missed has a twin among the legs
abbrev pub AreEnoughFor : (sizes : List ℕ) → WantedValue → List LegValue → Type 0
AreEnoughFor sizes w legs = (leaf : LegValue) → Contains w.readable leaf → IsMissed sizes w.acknowledged leaf → HasTwin legs leaf

abbrev pub AreEnough : (sizes : List ℕ) → List WantedValue → List LegValue → Type 0
AreEnough sizes ws legs = (w : WantedValue) → Contains ws w → AreEnoughFor sizes w legs

-- the leg of this number has the server
abbrev pub HasIt : List LegValue → (server number : ℕ) → Type 0
HasIt legs x k = (d : LegValue) × (slice_get legs k ≡ Some d) × Contains d.servers x

-- what is kept of those that have a server: nothing where none has it, and a number where that leg alone has it
abbrev pub Owns : (ℕ → Type 0) → Option (Option ℕ) → Type 0
Owns Has None = (k : ℕ) → Has k → ⊥
Owns Has (Some None) = ⊤
Owns Has (Some (Some n)) = (k : ℕ) → Has k → k ≡ n

abbrev pub AreOwners : BTreeMap ℕ (Option ℕ) → List LegValue → Type 0
AreOwners owners legs = (x : ℕ) → Owns (HasIt legs x) (get nat_cmp owners x)

-- what is kept once the leg of a number has the server too
abbrev pub owner_of : ℕ → Option (Option ℕ) → Option ℕ
owner_of n None = Some n
owner_of n (Some None) = None
owner_of n (Some (Some m)) = if nat_eq m n then Some n else None

-- the leg of this number alone has one of these servers
abbrev pub IsSole : BTreeMap ℕ (Option ℕ) → (number : ℕ) → List ℕ → Type 0
IsSole owners n servers = (x : ℕ) × Contains servers x × (get nat_cmp owners x ≡ Some (Some n))

-- the legs are some of those before a number
abbrev pub AreKept : List LegValue → (number : ℕ) → List LegValue → Type 0
AreKept legs n kept = (d : LegValue) → Contains kept d → (k : ℕ) × (k < n) × (slice_get legs k ≡ Some d)
